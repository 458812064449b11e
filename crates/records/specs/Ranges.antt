-- Ranges of the source, and when a span holds an offset.
-- Definitions only.
use Rattle.std.specs.Prelude.{ℕ, Bool, ◌&&◌, leb}
use Rattle.records.specs.declared.record.Rec.{Rec}
use Rattle.records.specs.declared.range.Range.{Range}

-- ---- ranges

-- what stands for a number that is not there
abbrev pub absent_number : ℕ
absent_number = 4294967295

-- an absent range is 4294967295 twice
abbrev pub absent : Range
absent = record { start = absent_number; end = absent_number }

-- the range of a record
abbrev pub span : Rec → Range
span r = record { start = r.start; end = r.end }

-- ---- offsets

-- a span holds the offset, both ends inclusive: an empty one, with start > end, holds none
abbrev pub spans : ℕ → ℕ → ℕ → Bool
spans o s e = leb s o && leb o e

abbrev pub holds : ℕ → Rec → Bool
holds o r = spans o r.start r.end
