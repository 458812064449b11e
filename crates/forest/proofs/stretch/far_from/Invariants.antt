use Rattle.forest.proofs.Searches.{Searching}
use Prim.Native.Nat.{◌-◌}
use Rattle.forest.proofs.stretch.far_from.Given as goal

abbrev pub invariant-loop-i : goal.invariant-loop-i
invariant-loop-i l = Searching l.t l.k l.j l.i

abbrev pub decreases-loop-i : goal.decreases-loop-i
decreases-loop-i l = l.m - l.i
