use Rattle.lent.proofs.Writes.{Putting}
use Rattle.lent.proofs.list.put_entry.Given as goal

abbrev pub invariant-loop-i : goal.invariant-loop-i
invariant-loop-i l = Putting l.initial.out l.at l.entry l.i l.out
