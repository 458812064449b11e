-- What glance prints, as a definition over its input bytes.
-- Definitions only.
use Rattle.std.specs.Prelude.{ℕ, List}
use Rattle.lent.specs.Verdicts.{first}
use Rattle.lines.specs.Lines.{Line, lines, frame_rules}
use Rattle.lines.specs.Frame.{source_of, offset_of, table_of}
use Rattle.report.specs.Output.{unless_refused, replied}

-- what is printed for a frame: 9 comes before all others
unfoldable pub replied_to : List Line → List ℕ
replied_to ls = unless_refused (first (frame_rules ls)) (replied (source_of ls) (table_of ls) (offset_of ls))

-- what glance prints for an input
abbrev pub glanced : List ℕ → List ℕ
glanced input = replied_to (lines input)
