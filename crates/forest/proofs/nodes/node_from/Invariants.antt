use Rattle.forest.proofs.NodeWalks.{Seeking}
use Rattle.forest.proofs.nodes.node_from.Given as goal

abbrev pub invariant-loop-i : goal.invariant-loop-i
invariant-loop-i l = Seeking l.t l.j l.i
