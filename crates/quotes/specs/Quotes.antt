-- A name with and without its quotes (document 02 §3).
-- src is the source's bytes. A range that has no name is absent.
-- Definitions only.
use Rattle.std.specs.Prelude.{ℕ, ◌+◌, ◌-◌, Bool, cond, ◌&&◌, ◌||◌, List, leb, eqb, get_or}
use Rattle.records.specs.declared.record.Rec.{Rec}
use Rattle.records.specs.declared.range.Range.{Range}
use Rattle.records.specs.Kinds.{quoted_identifier}
use Rattle.records.specs.Ranges.{absent, span}
use Rattle.quotes.specs.declared.quotes.NameRanges.{NameRanges}

-- byte i of the source
abbrev pub byte_at : List ℕ → ℕ → ℕ
byte_at src i = get_or src i 0

-- a backtick or a double quote
abbrev pub is_mark : ℕ → Bool
is_mark b = eqb b 96 || eqb b 34

-- the text between start and end without a matching pair of marks; a lone mark is kept, and marks that do not match
unfoldable pub unquoted : List ℕ → ℕ → ℕ → Range
unquoted src start end =
    let within : Range = record { start = start + 1; end = end - 1 } in
    let whole : Range = record { start = start; end = end } in
    cond (leb 2 (end - start) && (is_mark (byte_at src start) && eqb (byte_at src (end - 1)) (byte_at src start))) within whole

-- the name that a token gives. Outer: the token's range. Inner: a Quoted loses its quotes; a name that is no Quoted has the same range twice
unfoldable pub name_of : List ℕ → Rec → NameRanges
name_of src t = record { outer = span t; inner = cond (eqb t.kind quoted_identifier) (unquoted src t.start t.end) (span t) }

-- no name: an absent range twice
abbrev pub absent_name : NameRanges
absent_name = record { outer = absent; inner = absent }
