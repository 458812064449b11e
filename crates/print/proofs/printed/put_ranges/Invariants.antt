use Rattle.print.specs.Printed.{ranges}
use Rattle.print.specs.inner.Writing.{words}
use Rattle.print.proofs.Writing.{Rest}
use Prim.Native.Nat.{◌+◌, ◌-◌, ◌*◌, ◌≤◌}
use Rattle.print.proofs.printed.put_ranges.Given as goal

abbrev pub invariant-loop-i : goal.invariant-loop-i
invariant-loop-i l =
    (l.next ≤ l.at + 22 * l.i)
    × Rest (ranges (words l.list (l.from + 8 * l.i) (l.n - l.i + (l.n - l.i)))) l.out l.next (ranges (words l.list l.from (l.n + l.n))) l.initial.out l.at
