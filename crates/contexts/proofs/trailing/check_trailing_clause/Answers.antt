use Rattle.contexts.proofs.Clauses.{past-none, past-over, past-not, trailed}
use Rattle.contexts.specs.inner.ByNumber.{trailing_from}
use Rattle.contexts.proofs.trailing.check_trailing_clause.Goals as goal

pub returns-in_err-statement : goal.returns-in_err-statement
unfolding trailing_from
returns-in_err-statement c = rw (c.from_residual.ensures, c.in_err-statement.was)

pub returns-in_err-clause : goal.returns-in_err-clause
returns-in_err-clause c =
    rw c.in_ok-statement.was (trailed _ _ _ c.rest_from.ensures.0 c.last_clause.ensures (rw c.from_residual-in_err-clause.ensures (past-none _ c.in_err-clause.was)))

pub returns-then-clause-offset : goal.returns-then-clause-offset
returns-then-clause-offset c =
    rw c.in_ok-statement.was (trailed _ _ _ c.rest_from.ensures.0 c.last_clause.ensures (past-over _ c.in_ok-clause.was c.if-clause-offset.true c.past_clause.ensures))

pub returns-else-clause-offset : goal.returns-else-clause-offset
returns-else-clause-offset c =
    rw c.in_ok-statement.was (trailed _ _ _ c.rest_from.ensures.0 c.last_clause.ensures (past-not _ c.in_ok-clause.was c.if-clause-offset.false))
