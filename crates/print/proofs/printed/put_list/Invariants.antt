use Rattle.print.specs.inner.Writing.{printed_words}
use Rattle.print.proofs.Writing.{Rest}
use Prim.Native.Nat.{◌+◌, ◌-◌, ◌*◌, ◌≤◌}
use Rattle.print.proofs.printed.put_list.Given as goal

abbrev pub invariant-loop-i : goal.invariant-loop-i
invariant-loop-i l =
    (l.next ≤ l.at + 145 * l.i)
    × Rest (printed_words l.letter l.n (l.n + (l.m + l.m)) l.list (4 * (l.n + (l.m + l.m)) * l.i) (l.k - l.i)) l.out l.next (printed_words l.letter l.n (l.n + (l.m + l.m)) l.list 0 l.k) l.initial.out l.at
