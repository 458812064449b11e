use Prim.Native.Nat.{◌-◌, ◌≤◌}
use Rattle.statement.proofs.Passing.{Passing}
use Rattle.statement.proofs.statement.find_enclosing_statement.Given as goal

abbrev pub invariant-loop-i : goal.invariant-loop-i
invariant-loop-i l = ((1 ≤ l.i) × (l.i ≤ l.m)) × Passing l.offset l.table l.i l.best l.floor

abbrev pub decreases-loop-i : goal.decreases-loop-i
decreases-loop-i l = l.m - l.i
