-- Valid UTF-8, by the Unicode standard's table 3-7 of well-formed byte sequences, and the places between its characters.
-- Definitions only; the laws are in proofs/Utf8.antt.
use Rattle.std.specs.Prelude.{ℕ, ◌≤◌, ◌≡◌, Bool, true, false, ◌&&◌, ◌||◌, List, [], ◌∷◌, ◌++◌, leb, length, take, drop}

-- the bytes from the first to the last of them
pub record Bytes : Type 0 where
  pub first : ℕ
  pub last : ℕ

abbrev pub bytes : ℕ → ℕ → Bytes
bytes a b = record { first = a; last = b }

-- the bytes that go on with a character
abbrev pub further : Bytes
further = bytes 128 191

-- table 3-7: a row for each form of a character, its first byte, second byte and so on
abbrev pub forms : List (List Bytes)
forms =
    (bytes 0 127 ∷ [])
    ∷ (bytes 194 223 ∷ further ∷ [])
    ∷ (bytes 224 224 ∷ bytes 160 191 ∷ further ∷ [])
    ∷ (bytes 225 236 ∷ further ∷ further ∷ [])
    ∷ (bytes 237 237 ∷ bytes 128 159 ∷ further ∷ [])
    ∷ (bytes 238 239 ∷ further ∷ further ∷ [])
    ∷ (bytes 240 240 ∷ bytes 144 191 ∷ further ∷ further ∷ [])
    ∷ (bytes 241 243 ∷ further ∷ further ∷ further ∷ [])
    ∷ (bytes 244 244 ∷ bytes 128 143 ∷ further ∷ further ∷ [])
    ∷ []

-- a byte is among some
abbrev pub is_among : Bytes → ℕ → Bool
is_among r b = leb r.first b && leb b r.last

-- a sequence has a form, byte by byte
unfoldable pub has_form : List Bytes → List ℕ → Bool
has_form [] [] = true
has_form [] (b ∷ bs) = false
has_form (r ∷ rs) [] = false
has_form (r ∷ rs) (b ∷ bs) = is_among r b && has_form rs bs

-- it has one of some forms
unfoldable pub has_one_of : List (List Bytes) → List ℕ → Bool
has_one_of [] c = false
has_one_of (f ∷ fs) c = has_form f c || has_one_of fs c

-- it is a character
abbrev pub is_character : List ℕ → Bool
is_character = has_one_of forms

-- characters, and their bytes one after the other
unfoldable pub are_characters : List (List ℕ) → Bool
are_characters [] = true
are_characters (c ∷ cs) = is_character c && are_characters cs

unfoldable pub in_row : List (List ℕ) → List ℕ
in_row [] = []
in_row (c ∷ cs) = c ++ in_row cs

-- valid UTF-8: characters, one after the other
pub record Utf8 (s : List ℕ) : Type 0 where
  pub characters : List (List ℕ)
  pub each : are_characters characters ≡ true
  pub are : s ≡ in_row characters

-- place i is between characters: what stands before it and what stands behind it are characters
pub record Between (s : List ℕ) (i : ℕ) : Type 0 where
  pub within : i ≤ length s
  pub before : Utf8 (take i s)
  pub behind : Utf8 (drop i s)
