use Rattle.references.proofs.PendingLaws.{one_or_two_in}
use Rattle.forest.proofs.Walks.{Walk}
use Rattle.forest.specs.Parts.{below}
use Prim.Native.Nat.{◌-◌, ◌≤◌, ◌<◌}
use Rattle.references.proofs.pending.gives_reference.Given as goal

abbrev pub invariant-loop-i : goal.invariant-loop-i
invariant-loop-i l = ((1 ≤ l.i) × (l.i ≤ l.m) × (l.parts < l.i)) × Walk l.part.bytes.now l.part.base l.i (one_or_two_in l.parts) (one_or_two_in 0 (below l.part))

abbrev pub decreases-loop-i : goal.decreases-loop-i
decreases-loop-i l = l.m - l.i
