use Rattle.names.specs.Bindings.{binding_row}
use native.Mathlib.Omega.{arith}
use Rattle.lent.proofs.Writes.{written_one}
use Rattle.names.proofs.bindings.put_binding.Goals as goal

pub returns : goal.returns
returns c = (written_one binding_row _ _ _ c.put_entry.ensures.0 c.put_entry.ensures.1, omega arith)
