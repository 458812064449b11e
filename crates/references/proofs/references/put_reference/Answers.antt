use Rattle.references.specs.References.{reference_row}
use native.Mathlib.Omega.{arith}
use Rattle.lent.proofs.Writes.{written_one}
use Rattle.references.proofs.references.put_reference.Goals as goal

pub returns : goal.returns
returns c = (written_one reference_row _ _ _ c.put_entry.ensures.0 c.put_entry.ensures.1, omega arith)
