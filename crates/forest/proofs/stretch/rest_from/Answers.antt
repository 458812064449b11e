use native.Mathlib.Omega.{arith}
use lib.ListN.{length-take, length-drop}
use lib.Seq.{take-length}
use Rattle.forest.proofs.stretch.rest_from.Goals as goal

pub returns : goal.returns
returns c = (rw (← length-drop) (take-length _), simp (length-take, length-drop) (omega arith))
