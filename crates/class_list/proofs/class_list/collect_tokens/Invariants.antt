use Prim.Native.Nat.{◌-◌, ◌*◌, ◌≤◌}
use mathlib.Core.Path.{◌≡◌}
use lib.ListN.{length}
use Rattle.lent.specs.Lists.{Written}
use Rattle.class_list.specs.Classes.{class_row, entry_bytes}
use Rattle.class_list.specs.inner.Carried.{given_below}
use Rattle.class_list.proofs.class_list.collect_tokens.Given as goal

abbrev pub invariant-loop-i : goal.invariant-loop-i
invariant-loop-i l = ((l.i ≤ l.m) × (l.next ≤ entry_bytes * l.i) × (length l.out ≡ length l.initial.out)) × Written class_row (given_below l.source l.table l.i) l.initial.out 0 l.out l.next

abbrev pub decreases-loop-i : goal.decreases-loop-i
decreases-loop-i l = l.m - l.i
