use Rattle.names.specs.Bindings.{binding_row, entry}
use native.Mathlib.Omega.{arith}
use Rattle.lent.proofs.Writes.{written_none}
use Rattle.names.proofs.bindings.put_bound.Goals as goal

pub returns-in-None : goal.returns-in-None
unfolding entry
returns-in-None c = (rw c.in-None.is (written_none binding_row _ _), omega arith)

pub returns-in-Some : goal.returns-in-Some
unfolding entry
returns-in-Some c = (rw c.in-Some.is c.put_binding.ensures.0, omega arith)
