-- How the Rust is written down here, so that it can be held beside its text (000, by file and function).
--     a `&SyntaxTree` is a node's record and its children; a token is its record
--     `for child in &tree.children` is the recursion on the siblings: `token` is SyntaxChild::Token, `node` is SyntaxChild::Tree
--     what is `&mut` is handed in and given back; a `return` out of a loop leaves the rest unread
--     a `Vec` is a list in its order; a `&str` or a `String` is the range of the source where it stands
--     a call gives something or stops (`Call`), and what stops within it stops all of it
-- A definition that has the name of a function of the Rust is that function. They stand in the order of the Rust's file, but for one that is used
-- by an earlier one: it stands before its first use. These are the library functions that it uses.
-- Definitions only.
use Rattle.std.specs.Prelude.{ℕ, ◌≤◌, ◌<◌, ◌≡◌, Bool, cond, not, ◌&&◌, ◌||◌, List, [], ◌∷◌, ◌++◌, ◌↔◌, leb, ltb, eqb, length, get_or, Option, None, Some}
use Rattle.records.specs.declared.record.Rec.{Rec}
use Rattle.records.specs.declared.range.Range.{Range}
use Rattle.records.specs.Table.{count, kind_at, start_at, end_at, record_at}
use Rattle.table.specs.Exactly.{Token}
use Rattle.records.specs.Ranges.{span}
use Rattle.utf8.specs.Utf8.{further, is_among, Utf8, Between}

infixl 10 ◌>>=◌
-- ---- a call

-- it stops, or gives something
pub data Call (A : Type 0) : Type 0 where
  stops : Call A
  gives : A → Call A

-- one call and then, with what it gives, the next: what `do` means below
unfoldable pub ◌>>=◌ : {A B : Type 0} → Call A → (A → Call B) → Call B
◌>>=◌ stops next = stops
◌>>=◌ (gives x) next = next x

-- ---- slices

-- str::is_char_boundary
unfoldable pub is_char_boundary : List ℕ → ℕ → Bool
is_char_boundary s i = eqb i 0 || (eqb i (length s) || (ltb i (length s) && not (is_among further (get_or s i 0))))

-- `&source[start..end]`, which stops where it cuts a character, runs past the end or starts behind its own end
unfoldable pub slice : List ℕ → ℕ → ℕ → Call Range
slice source start end =
    cond (leb start end && (is_char_boundary source start && is_char_boundary source end)) (gives (record { start = start; end = end })) stops

-- in valid UTF-8 it is given exactly if both its ends are between characters (`given-exactly` in proofs/Texts.antt)
abbrev pub GivenExactly : List ℕ → Type 0
GivenExactly source = (start end : ℕ) → start ≤ end → (slice source start end ≡ gives (record { start = start; end = end })) ↔ (Between source start × Between source end)

-- Token::text(source)
abbrev pub text_of : List ℕ → Rec → Call Range
text_of source t = slice source t.start t.end

-- valid UTF-8, with the tokens of the table t cut between characters
pub record Askable (source t : List ℕ) : Type 0 where
  pub valid : Utf8 source
  pub cut : (i : ℕ) → i < count t → Token (kind_at t i) → Between source (start_at t i) × Between source (end_at t i)

-- then, of an admitted table, no token's text stops (`texts` in proofs/Texts.antt)
abbrev pub NoTextStops : List ℕ → List ℕ → Type 0
NoTextStops source t = (i : ℕ) → i < count t → Token (kind_at t i) → text_of source (record_at t 0 i) ≡ gives (span (record_at t 0 i))

-- ---- vectors and iterators

-- Vec::push
abbrev pub push : {A : Type 0} → List A → A → List A
push xs x = xs ++ x ∷ []

-- slice::last
unfoldable pub last : {A : Type 0} → List A → Option A
last [] = None
last (x ∷ []) = Some x
last (x ∷ y ∷ xs) = last (y ∷ xs)

-- Vec::pop, for what it leaves
unfoldable pub pop : {A : Type 0} → List A → List A
pop [] = []
pop (x ∷ []) = []
pop (x ∷ y ∷ xs) = x ∷ pop (y ∷ xs)

-- Iterator::find
unfoldable pub find : {A : Type 0} → (A → Bool) → List A → Option A
find test [] = None
find {A} test (x ∷ xs) = let on : Option A = find test xs in cond (test x) (Some x) on
