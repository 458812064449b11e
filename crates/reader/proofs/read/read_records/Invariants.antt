use Rattle.lines.specs.Lines.{lines}
use Rattle.lines.proofs.Reading.{Reading}
use lib.ListN.{length}
use mathlib.Core.Path.{◌≡◌}
use Prim.Native.Nat.{◌≤◌}
use Rattle.reader.proofs.read.read_records.Given as goal

abbrev pub invariant-loop-rest : goal.invariant-loop-rest
invariant-loop-rest l = ((l.n ≤ 1024) × (length l.table ≡ length l.initial.table)) × Reading (lines l.text) l.initial.table (lines l.rest) l.table l.n

abbrev pub decreases-loop-rest : goal.decreases-loop-rest
decreases-loop-rest l = length l.rest
