use Rattle.print.specs.Printed.{fields}
use Rattle.print.specs.inner.Writing.{words}
use Rattle.print.proofs.Writing.{Rest}
use Prim.Native.Nat.{◌+◌, ◌-◌, ◌*◌, ◌≤◌}
use Rattle.print.proofs.printed.put_fields.Given as goal

abbrev pub invariant-loop-i : goal.invariant-loop-i
invariant-loop-i l = (l.next ≤ l.at + 11 * l.i) × Rest (fields (words l.list (l.from + 4 * l.i) (l.n - l.i))) l.out l.next (fields (words l.list l.from l.n)) l.initial.out l.at
