use Rattle.starts.specs.inner.Ready.{Begun}
use Rattle.starts.proofs.starts.pass_child.Given as goal

abbrev pub invariant-loop-c : goal.invariant-loop-c
invariant-loop-c l = Begun l.table l.offsets l.starts
