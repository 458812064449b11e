use Rattle.above.proofs.AboveLaws.{Upward}
use lib.ListN.{length}
use mathlib.Core.Path.{◌≡◌}
use Prim.Native.Nat.{◌+◌, ◌*◌, ◌≤◌}
use Rattle.above.proofs.above.collect_above.Given as goal

abbrev pub invariant-loop-i : goal.invariant-loop-i
invariant-loop-i l = ((l.i ≤ l.n) × (l.next + 4 * l.i ≤ 4 * l.n) × (length l.out ≡ length l.initial.out)) × Upward l.table l.n l.initial.out l.i l.out l.next

abbrev pub decreases-loop-i : goal.decreases-loop-i
decreases-loop-i l = l.i
