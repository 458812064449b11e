use Rattle.starts.specs.inner.Ready.{Begun}
use Prim.Native.Nat.{◌-◌, ◌≤◌}
use Rattle.starts.proofs.starts.begin_all.Given as goal

abbrev pub invariant-loop-i : goal.invariant-loop-i
invariant-loop-i l = ((1 ≤ l.i) × (l.i ≤ l.m)) × Begun l.table l.offsets l.starts

abbrev pub decreases-loop-i : goal.decreases-loop-i
decreases-loop-i l = l.m - l.i
