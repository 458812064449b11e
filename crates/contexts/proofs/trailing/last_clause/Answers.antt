use Rattle.contexts.proofs.Clauses.{clause-none, clause-start, clause-end, clause-next}
use native.Mathlib.Omega.{arith}
use Rattle.contexts.proofs.trailing.last_clause.Goals as goal

pub returns-then-m-eq0 : goal.returns-then-m-eq0
returns-then-m-eq0 c = clause-none _ _ (omega arith)

pub loop-i-init : goal.loop-i-init
loop-i-init c = (omega arith, clause-start _ _ (omega arith) c.child_from-i.ensures)

pub loop-i-preserved : goal.loop-i-preserved
loop-i-preserved c =
    (omega arith, clause-next c.loop-i.invariant.1 (omega arith) c.clause_at-last.ensures c.child_from-i-in-loop-i.ensures)

pub returns : goal.returns
returns c = clause-end c.loop-i.invariant.1 (omega arith)
