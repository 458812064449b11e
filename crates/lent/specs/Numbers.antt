-- A 32-bit number in four little-endian bytes.
-- Definitions only.
use Rattle.std.specs.Prelude.{ℕ, ◌+◌, ◌*◌, ◌/◌, ◌%◌, ◌<◌, List, [], ◌∷◌, get_or}

-- how many bytes a number takes
abbrev pub number_bytes : ℕ
number_bytes = 4

-- a number of four bytes is below this
abbrev pub word_limit : ℕ
word_limit = 4294967296

-- each is a byte, below 256: known of every slice that a function is lent, and said here since a list may hold any numbers
abbrev pub OfBytes : List ℕ → Type 0
OfBytes t = (i : ℕ) → get_or t i 0 < 256

-- the little-endian number in the four bytes of t from `at` on
unfoldable pub word : List ℕ → ℕ → ℕ
word t at = get_or t at 0 + get_or t (at + 1) 0 * 256 + get_or t (at + 2) 0 * 65536 + get_or t (at + 3) 0 * 16777216

-- the four little-endian bytes of v
abbrev pub le4 : ℕ → List ℕ
le4 v = v % 256 ∷ v / 256 % 256 ∷ v / 65536 % 256 ∷ v / 16777216 % 256 ∷ []
