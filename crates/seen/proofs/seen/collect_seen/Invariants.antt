use Rattle.seen.proofs.SeenLaws.{Seeing}
use Rattle.items.specs.inner.Room.{clause_bytes}
use lib.ListN.{length}
use mathlib.Core.Path.{◌≡◌}
use Prim.Native.Nat.{◌+◌, ◌*◌, ◌≤◌}
use Rattle.seen.proofs.seen.collect_seen.Given as goal

abbrev pub invariant-loop-i : goal.invariant-loop-i
invariant-loop-i l = ((l.next ≤ l.at + clause_bytes * l.i) × (length l.out ≡ length l.initial.out))
    × Seeing l.source l.table l.n l.root l.s l.initial.out l.at l.k l.reach l.i l.out l.next
