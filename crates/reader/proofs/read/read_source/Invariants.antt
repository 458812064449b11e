use Rattle.lines.specs.Frame.{pairs}
use lib.ListN.{drop}
use lib.Seq.{sets}
use mathlib.Core.Path.{◌≡◌}
use Prim.Native.Nat.{◌*◌}
use Rattle.reader.proofs.read.read_source.Given as goal

abbrev pub invariant-loop-i : goal.invariant-loop-i
invariant-loop-i l = sets l.source l.i (pairs (drop (2 * l.i) l.digits)) ≡ sets l.initial.source 0 (pairs l.digits)
