use Rattle.tables.proofs.Turns.{hand-none, hand-held, hand-nothing}
use Rattle.lent.proofs.Writes.{written_none, written-map}
use Rattle.references.specs.References.{reference_row}
use Rattle.tables.specs.inner.Rows.{as_row}
use native.Mathlib.Omega.{arith}
use Rattle.tables.proofs.tables.hand_on.Goals as goal

pub returns-in-Aliases : goal.returns-in-Aliases
returns-in-Aliases c = (rw (c.in-Aliases.is, hand-none _) (written_none as_row _ _), omega arith)

pub returns-in-None : goal.returns-in-None
returns-in-None c =
    (rw (← c.pending_of.ensures, c.in-None.is, hand-nothing _) (written_none as_row _ _), omega arith)

pub returns-in-Some : goal.returns-in-Some
returns-in-Some c =
    (rw (c.in-References.is, ← c.pending_of.ensures, c.in-Some.is, hand-held _) (written-map reference_row _ c.put_reference.ensures.0), omega arith)
