use Rattle.binders.specs.inner.Binders.{names}
use Rattle.names.specs.Bindings.{binding_row}
use Rattle.forest.proofs.Writing.{writing}
use Rattle.forest.proofs.NodeWalks.{NodeWalk}
use Rattle.forest.specs.Parts.{below}
use lib.ListN.{length}
use mathlib.Core.Path.{◌≡◌}
use Prim.Native.Nat.{◌+◌, ◌-◌, ◌*◌, ◌≤◌}
use Rattle.binders.proofs.binders.+collect_bound.Given as goal

abbrev pub decreases-collect_bound : goal.decreases-collect_bound
decreases-collect_bound l = length l.part.now.bytes.now

abbrev pub invariant-loop-i : goal.invariant-loop-i
invariant-loop-i l =
    ((1 ≤ l.i) × (l.i ≤ l.m) × (l.next ≤ l.at + 24 * l.i) × (length l.out ≡ length l.initial.out))
    × NodeWalk l.part.bytes.now l.part.base l.i (writing binding_row (names l.binder l.source) l.out l.next) (writing binding_row (names l.binder l.source) l.initial.out l.at (below l.part))

abbrev pub decreases-loop-i : goal.decreases-loop-i
decreases-loop-i l = l.m - l.i
