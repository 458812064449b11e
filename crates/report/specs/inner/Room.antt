-- How many entries a reply tells of, and how much room every text has. A reader of what glance prints needs none of it.
-- Definitions only.
use Rattle.lent.specs.declared.refusal.Refusal.{Refusal}
use Rattle.std.specs.Prelude.{ℕ, ◌+◌, ◌*◌, ◌/◌, Ok, Err, Result}
use Rattle.references.specs.References.{reference_bytes}
use Rattle.lines.specs.Lines.{most_lines}
use Rattle.print.specs.inner.Writing.{line_room}
use Rattle.report.specs.Output.{reference_room}

-- how many entries a reply tells of
unfoldable pub entry_count : Result ℕ Refusal → ℕ
entry_count (Ok n) = n
entry_count (Err r) = 0

-- how many references have room, and how many bytes every text has room in: a line for the context, the statement and the end, and one
-- for each reference, token and opener
abbrev pub most_references : ℕ
most_references = reference_room / reference_bytes

abbrev pub text_room : ℕ
text_room = line_room * (3 + most_references + 2 * most_lines)
