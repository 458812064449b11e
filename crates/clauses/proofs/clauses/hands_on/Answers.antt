use Rattle.clauses.proofs.ClauseLaws.{hands-sub, hands-clause}
use Rattle.clauses.proofs.clauses.hands_on.Goals as goal

pub returns-then-kind_at-eq-SUBQUERY_EXPRESSION : goal.returns-then-kind_at-eq-SUBQUERY_EXPRESSION
returns-then-kind_at-eq-SUBQUERY_EXPRESSION c = hands-sub _ _ c.kind_at.ensures.0 c.if-kind_at-eq-SUBQUERY_EXPRESSION.true

pub returns : goal.returns
returns c = hands-clause _ _ c.kind_at.ensures.0 c.if-kind_at-eq-SUBQUERY_EXPRESSION.false c.has_clause.ensures
