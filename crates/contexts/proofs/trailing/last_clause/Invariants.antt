use Rattle.contexts.proofs.Clauses.{Seeks}
use Prim.Native.Nat.{◌-◌, ◌≤◌}
use Rattle.contexts.proofs.trailing.last_clause.Given as goal

abbrev pub invariant-loop-i : goal.invariant-loop-i
invariant-loop-i l = ((1 ≤ l.i) × (l.i ≤ l.m)) × Seeks l.offset l.s l.i l.last

abbrev pub decreases-loop-i : goal.decreases-loop-i
decreases-loop-i l = l.m - l.i
