use Rattle.path.proofs.Steps.{steps}
use Rattle.path.specs.Path.{trails, is_subquery}
use Rattle.path.specs.inner.Gathered.{stepped}
use Rattle.std.specs.Prelude.{Some}
use mathlib.Core.Path.{◌≡◌}
use mathlib.Core.Bool.{cond}
use borrow.Author.Tests.{eq-eqb, ne_eqb}
use Rattle.path.proofs.gathered.enter.Goals as goal
use Rattle.path.proofs.gathered.enter.Goals.{then-is_statement, else-is_statement, then-kind-eq-SUBQUERY_EXPRESSION, else-kind-eq-SUBQUERY_EXPRESSION}

pub returns : goal.returns
unfolding stepped
returns c =
    let statement : c.if-is_statement.result ≡ cond (trails c.args.kind) (Some c.args.i) c.settle-above.result.statement =
    elim c.if-is_statement.branch [
      | then-is_statement w ↦ rw (w.result-is, w.if-is_statement.true)
      | else-is_statement w ↦ rw (w.result-is, w.if-is_statement.false)
    ] in
    let query : c.if-kind-eq-SUBQUERY_EXPRESSION.result ≡ cond (is_subquery c.args.kind) (Some c.args.i) c.settle-above.result.query =
    elim c.if-kind-eq-SUBQUERY_EXPRESSION.branch [
      | then-kind-eq-SUBQUERY_EXPRESSION w ↦ rw (w.result-is, eq-eqb _ _ w.if-kind-eq-SUBQUERY_EXPRESSION.true)
      | else-kind-eq-SUBQUERY_EXPRESSION w ↦ rw (w.result-is, ne_eqb _ _ w.if-kind-eq-SUBQUERY_EXPRESSION.false)
    ] in
    steps _ _ _ _ (rw (statement, query, c.settle-above.ensures.0, c.rule_over.ensures))
