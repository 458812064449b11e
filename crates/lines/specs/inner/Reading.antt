-- How a frame is read: what a turn of a loop does. A reader of what glance prints needs none of it.
-- Definitions only.
use Rattle.lent.specs.declared.refusal.Refusal.{Refusal}
use Rattle.std.specs.Prelude.{Result, Ok, Err, ℕ, suc, ◌*◌, ◌≤◌, ◌≡◌, cond, List, [], ◌∷◌, length, take, ltb, eqb}
use Rattle.records.specs.Table.{record_bytes}
use Rattle.lent.specs.Lists.{list_bytes}
use Rattle.lent.specs.Verdicts.{first}
use Rattle.lines.specs.declared.input.Frame.{Frame}
use Rattle.lines.specs.Lines.{Line, line, lf, most_bytes, most_lines, record_rules, frame_rules}
use Rattle.lines.specs.Frame.{record_row, source_of, offset_of, table_of}

-- ---- reading

-- how many bytes of room a frame's table has
abbrev pub table_room : ℕ
table_room = most_lines * record_bytes

-- how many bytes stand before the first LF
unfoldable pub line_span : List ℕ → ℕ
line_span [] = 0
line_span (b ∷ bs) = let on : ℕ = suc (line_span bs) in cond (eqb b lf) 0 on

-- the line up to byte e of a text
abbrev pub line_to : List ℕ → ℕ → Line
line_to bs e = line (take e bs) (ltb e (length bs))

-- what the reading of the records' lines finds: the first faulty one; or how many there are, and their bytes stand in front in the buffer
unfoldable pub ReadRecords : List Line → List ℕ → Result ℕ Refusal → Type 0
ReadRecords ls t (Err r) = Err r ≡ first (record_rules 3 ls)
ReadRecords ls t (Ok n) =
    (Ok tt ≡ first (record_rules 3 ls)) × (n ≡ length ls) × (n ≤ most_lines) × (take (record_bytes * n) t ≡ list_bytes record_row ls)

-- what the reading of a frame finds: the first faulty line; or the source and the table, which stand in front in their buffers, and the offset
unfoldable pub ReadFrame : List Line → List ℕ → List ℕ → Result Frame Refusal → Type 0
ReadFrame ls s t (Err r) = Err r ≡ first (frame_rules ls)
ReadFrame ls s t (Ok f) =
    (Ok tt ≡ first (frame_rules ls)) × (f.bytes ≤ most_bytes) × (take f.bytes s ≡ source_of ls) × (f.offset ≡ offset_of ls)
    × (f.records ≤ most_lines) × (take (record_bytes * f.records) t ≡ table_of ls)
