use Rattle.contexts.specs.PathRules.{column}
use borrow.Author.Tests.{eq-eqb, ne_eqb}
use Rattle.path_rules.proofs.rules.column_context.Goals as goal

pub returns-then-kind_at-eq-SELECT_CLAUSE : goal.returns-then-kind_at-eq-SELECT_CLAUSE
unfolding column
returns-then-kind_at-eq-SELECT_CLAUSE c =
    λ base. rw (← c.kind_at.ensures.0, eq-eqb _ _ c.if-kind_at-eq-SELECT_CLAUSE.true) (c.check_dot_access.ensures base)

pub returns : goal.returns
unfolding column
returns c =
    λ base. rw (← c.kind_at.ensures.0, ne_eqb _ _ c.if-kind_at-eq-SELECT_CLAUSE.false) (c.check_dot_access-2.ensures base)
