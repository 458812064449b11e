use Rattle.enclosing.proofs.ClimbLaws.{Climbing, OuterBelow}
use Rattle.seen.specs.inner.Room.{root_bytes}
use Rattle.records.specs.Table.{count, depth_at}
use lib.ListN.{length}
use mathlib.Core.Path.{◌≡◌}
use Prim.Native.Nat.{◌+◌, ◌*◌, ◌≤◌}
use Rattle.enclosing.proofs.enclosing.collect_around.Given as goal

abbrev pub invariant-loop-i : goal.invariant-loop-i
invariant-loop-i l = ((l.i ≤ l.n) × (l.next + root_bytes * depth_at l.table l.i ≤ l.at + root_bytes * depth_at l.table l.n) × (length l.out ≡ length l.initial.out))
    × OuterBelow (count l.table) l.outer
    × Climbing l.source l.table l.n l.initial.out l.at l.outer l.i l.out l.next

abbrev pub decreases-loop-i : goal.decreases-loop-i
decreases-loop-i l = l.i
