use Rattle.names.specs.Names.{with_item}
use Rattle.forest.proofs.Walks.{Walk}
use Prim.Native.Nat.{◌-◌, ◌≤◌}
use Rattle.forest.specs.Parts.{head, below}
use Rattle.names.proofs.names.extract_cte.Given as goal

abbrev pub invariant-loop-i : goal.invariant-loop-i
invariant-loop-i l = ((1 ≤ l.i) × (l.i ≤ l.m)) × Walk l.part.bytes.now l.part.base l.i (with_item l.source (head l.part)) (with_item l.source (head l.part) (below l.part))

abbrev pub decreases-loop-i : goal.decreases-loop-i
decreases-loop-i l = l.m - l.i
