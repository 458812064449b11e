use Rattle.in_order.specs.inner.Fast.{InOrder}
use Prim.Native.Nat.{◌-◌, ◌≤◌}
use Rattle.in_order.proofs.in_order.last_end_in_order.Given as goal

abbrev pub invariant-loop-i : goal.invariant-loop-i
invariant-loop-i l = ((1 ≤ l.i) × (l.i ≤ l.m)) × InOrder l.table l.i l.e.limit l.e.parent l.e.last l.nodes

abbrev pub decreases-loop-i : goal.decreases-loop-i
decreases-loop-i l = l.m - l.i
