use Rattle.enclosing.proofs.ClimbLaws.{own-written, offered-alone, offered-around}
use native.Mathlib.Omega.{arith}
use Rattle.offered.proofs.offered.collect_offered.Goals as goal

pub returns-then-kind_at-ne-SUBQUERY_EXPRESSION : goal.returns-then-kind_at-ne-SUBQUERY_EXPRESSION
returns-then-kind_at-ne-SUBQUERY_EXPRESSION c =
    (offered-alone _ _ _ (λ q. omega arith) (own-written _ _ _ c.stretch_of.ensures.0 c.collect_scope-next.ensures.0), omega arith)

pub returns : goal.returns
returns c =
    (offered-around _ _ _ (omega arith) (own-written _ _ _ c.stretch_of.ensures.0 c.collect_scope-next.ensures.0) c.collect_around.ensures.0, omega arith)
