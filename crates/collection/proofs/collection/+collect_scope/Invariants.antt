use Rattle.tables.specs.inner.Rows.{as_row}
use Rattle.collection.specs.inner.Rows.{own_rows, own_bytes}
use Rattle.collection.specs.Collection.{collected}
use Rattle.forest.proofs.Writing.{writing}
use Rattle.forest.proofs.NodeWalks.{NodeWalk}
use Rattle.forest.specs.Parts.{below}
use lib.ListN.{length}
use mathlib.Core.Path.{◌≡◌}
use Prim.Native.Nat.{◌+◌, ◌-◌, ◌*◌, ◌≤◌}
use Rattle.collection.proofs.collection.+collect_scope.Given as goal

abbrev pub decreases-collect_scope : goal.decreases-collect_scope
decreases-collect_scope l = length l.part.now.bytes.now

abbrev pub invariant-loop-i : goal.invariant-loop-i
invariant-loop-i l =
    ((1 ≤ l.i) × (l.i ≤ l.m) × (l.next ≤ l.at + own_bytes * l.i) × (length l.out ≡ length l.initial.out))
    × NodeWalk l.part.bytes.now l.part.base l.i (writing as_row (collected (own_rows l.asked l.source)) l.out l.next) (writing as_row (collected (own_rows l.asked l.source)) l.initial.out l.initial.next (below l.part))

abbrev pub decreases-loop-i : goal.decreases-loop-i
decreases-loop-i l = l.m - l.i
