use Rattle.tables.specs.Tables.{aliased}
use Rattle.tables.proofs.waiting.with_alias.Goals as goal

pub returns-in_err-reference : goal.returns-in_err-reference
unfolding aliased
returns-in_err-reference c = rw (c.from_residual.ensures, c.in_err-reference.was)

pub returns-in-None : goal.returns-in-None
unfolding aliased
returns-in-None c = rw (c.in_ok-reference.was, c.in-None.is)

pub returns-in-Some : goal.returns-in-Some
unfolding aliased
returns-in-Some c = rw (c.in_ok-reference.was, c.in-Some.is, c.bound_name.ensures)
