use Rattle.items.proofs.ItemLaws.{Picking}
use lib.ListN.{length}
use mathlib.Core.Path.{◌≡◌}
use Prim.Native.Nat.{◌+◌, ◌*◌, ◌≤◌}
use Rattle.items.proofs.items.collect_items.Given as goal

abbrev pub invariant-loop-i : goal.invariant-loop-i
invariant-loop-i l = ((l.next ≤ l.at + 24 * l.i) × (length l.out ≡ length l.initial.out))
    × Picking l.source l.table l.n l.clause l.s l.initial.out l.at l.k l.reach l.i l.out l.next
