use native.Mathlib.Omega.{arith}
use lib.ListN.{length-take, length-drop}
use Rattle.forest.proofs.stretch.stretch_of.Goals as goal

pub returns : goal.returns
returns c =
    (rw (← c.stretch_end-e.ensures.0), simp (length-take, length-drop) (omega arith), omega arith, omega arith)
