-- Document 01, Worked by hand: the lines that glance reads, their form, and refusal 9.
-- Definitions only.
use Rattle.lent.specs.declared.refusal.Condition.TheVariants.{BadLine}
use Rattle.std.specs.Prelude.{ℕ, suc, ◌+◌, ◌-◌, ◌*◌, ◌%◌, Bool, true, false, cond, not, ◌&&◌, ◌||◌, List, [], ◌∷◌, length, drop, ltb, leb, eqb}
use Rattle.lent.specs.Verdicts.{Rule, rule}

-- ---- the lines

-- the byte LF
abbrev pub lf : ℕ
lf = 10

-- a line: its bytes, and whether LF ends it
pub record Line : Type 0 where
  pub bytes : List ℕ
  pub ended : Bool

abbrev pub line : List ℕ → Bool → Line
line bs e = record { bytes = bs; ended = e }

-- the lines of a text that begins with a byte other than LF, of those of what follows it
unfoldable pub begun : ℕ → List Line → List Line
begun b [] = line (b ∷ []) false ∷ []
begun b (l ∷ ls) = line (b ∷ l.bytes) l.ended ∷ ls

-- the lines of the input: LF ends each, but where the input breaks off
unfoldable pub lines : List ℕ → List Line
lines [] = []
lines (b ∷ more) = let ls : List Line = lines more in cond (eqb b lf) (line [] true ∷ ls) (begun b ls)

-- ---- digits

-- 0 to 9
abbrev pub is_decimal : ℕ → Bool
is_decimal b = leb 48 b && leb b 57

-- a to f
abbrev pub is_letter : ℕ → Bool
is_letter b = leb 97 b && leb b 102

-- digits are lower case
unfoldable pub is_digit : ℕ → Bool
is_digit b = is_decimal b || is_letter b

-- what a digit stands for; any other byte stands for 0
unfoldable pub value : ℕ → ℕ
value b = cond (is_decimal b) (b - 48) (cond (is_letter b) (b - 87) 0)

-- only digits
unfoldable pub all_digits : List ℕ → Bool
all_digits [] = true
all_digits (b ∷ bs) = is_digit b && all_digits bs

-- ---- the form of a line

-- the most bytes of a source, and the most records
abbrev pub most_bytes : ℕ
most_bytes = 4096

abbrev pub most_lines : ℕ
most_lines = 1024

-- how many digits an offset has, and a record: kind and depth two, start, end and parent eight
abbrev pub offset_digits : ℕ
offset_digits = 8

abbrev pub record_digits : ℕ
record_digits = 28

-- LF ends it, and its bytes are digits
unfoldable pub is_hex : Line → Bool
is_hex l = l.ended && all_digits l.bytes

-- the source's line: two digits a byte, and not too many bytes
unfoldable pub is_source : Line → Bool
is_source l = is_hex l && eqb (length l.bytes % 2) 0 && leb (length l.bytes) (2 * most_bytes)

-- a line of so many digits
unfoldable pub is_numbers : ℕ → Line → Bool
is_numbers n l = is_hex l && eqb (length l.bytes) n

-- ---- refusal 9: the first faulty line counted from 1, a missing line by its place

-- the first of these lines is missing, or not of its form
unfoldable pub faulty : (Line → Bool) → List Line → Bool
faulty form [] = true
faulty form (l ∷ ls) = not (form l)

-- the last line that may hold a record: two stand before them
abbrev pub last_line : ℕ
last_line = 2 + most_lines

-- the lines from line i on: a record each
unfoldable pub record_rules : ℕ → List Line → List Rule
record_rules i [] = []
record_rules i (l ∷ ls) = rule BadLine i (ltb last_line i || not (is_numbers record_digits l)) ∷ record_rules (suc i) ls

-- the source, the offset, a record at least, and the records
abbrev pub frame_rules : List Line → List Rule
frame_rules ls =
    rule BadLine 1 (faulty is_source ls)
    ∷ rule BadLine 2 (faulty (is_numbers offset_digits) (drop 1 ls))
    ∷ rule BadLine 3 (eqb (length (drop 2 ls)) 0)
    ∷ record_rules 3 (drop 2 ls)
