use Rattle.forest.proofs.Searches.{Searching}
use Rattle.forest.proofs.stretch.level_from.Given as goal

abbrev pub invariant-loop-i : goal.invariant-loop-i
invariant-loop-i l = Searching l.t l.k l.j l.i
