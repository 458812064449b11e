-- Document 01, Worked by hand: what the lines of a frame say.
-- Definitions only.
use Rattle.std.specs.Prelude.{ℕ, ◌+◌, ◌*◌, List, [], ◌∷◌, drop}
use Rattle.lent.specs.Lists.{list_bytes}
use Rattle.text.specs.Text.{text}
use Rattle.lines.specs.Lines.{Line, value}

-- v, and then digits after it, the most significant first
unfoldable pub spelt : ℕ → List ℕ → ℕ
spelt v [] = v
spelt v (d ∷ ds) = spelt (v * 16 + value d) ds

-- the number that digits spell
abbrev pub hex_number : List ℕ → ℕ
hex_number ds = spelt 0 ds

-- the bytes that digits spell, two digits each
unfoldable pub pairs : List ℕ → List ℕ
pairs [] = []
pairs (a ∷ []) = []
pairs (a ∷ b ∷ ds) = (value a * 16 + value b) ∷ pairs ds

-- the bytes of the first of these lines
unfoldable pub first_bytes : List Line → List ℕ
first_bytes [] = []
first_bytes (l ∷ ls) = l.bytes

-- the source
abbrev pub source_of : List Line → List ℕ
source_of ls = pairs (first_bytes ls)

-- the offset
abbrev pub offset_of : List Line → ℕ
offset_of ls = hex_number (first_bytes (drop 1 ls))

-- the five numbers of a record's line: kind and depth of two digits, start, end and parent of eight
unfoldable pub fields_of : List ℕ → List ℕ
fields_of ds =
    hex_number (text ds 0 2) ∷ hex_number (text ds 2 4) ∷ hex_number (text ds 4 12) ∷ hex_number (text ds 12 20) ∷ hex_number (text ds 20 28) ∷ []

abbrev pub record_row : Line → List ℕ
record_row l = fields_of l.bytes

-- the table
abbrev pub table_of : List Line → List ℕ
table_of ls = list_bytes record_row (drop 2 ls)
