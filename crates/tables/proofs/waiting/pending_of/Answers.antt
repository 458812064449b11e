use Rattle.tables.proofs.WaitingLaws.{waiting-name, waiting-both}
use Rattle.tables.specs.inner.Waiting.{pending_at}
use Rattle.tables.proofs.waiting.pending_of.Goals as goal

pub returns-in_err-n : goal.returns-in_err-n
unfolding pending_at
returns-in_err-n c = rw (c.from_residual.ensures, c.in_err-n.was)

pub returns-in-None : goal.returns-in-None
returns-in-None c =
    rw (c.in_ok-n.was, c.in-None.is) (waiting-name _ _ _ _ c.stretch_of.ensures.0 (rw c.stretch_of.ensures.1 at c.extract_table_identifier-reference.ensures))

pub returns-in-Some : goal.returns-in-Some
returns-in-Some c =
    rw (c.in_ok-n.was, c.in-Some.is) (waiting-both _ _ _ _ c.stretch_of.ensures.0 (rw c.stretch_of.ensures.1 at c.extract_table_identifier-reference.ensures) _ c.stretch_of-in-Some.ensures.0 (rw c.stretch_of-in-Some.ensures.1 at c.extract_alias_name.ensures) c.with_alias.ensures)
