use Rattle.cursors.proofs.CursorsLaws.{Taking}
use Rattle.starts.specs.inner.Ready.{Begun}
use mathlib.Core.Path.{◌≡◌}
use Prim.Native.Nat.{◌*◌}
use Rattle.cursors.proofs.cursors.collect_contexts.Given as goal

abbrev pub invariant-loop-i : goal.invariant-loop-i
invariant-loop-i l = (l.next ≡ 16 * l.i) × Begun l.table l.offsets l.starts × Taking l.source l.table l.offsets l.initial.out l.i l.out l.next
