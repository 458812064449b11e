use Rattle.clauses.proofs.ClauseLaws.{unmet-start, unmet-none, unmet-found, unmet-on}
use native.Mathlib.Omega.{arith}
use Rattle.clauses.proofs.clauses.has_kind_from.Goals as goal

pub loop-i-init : goal.loop-i-init
loop-i-init c = unmet-start _ _ _ _

pub returns-then-is_within : goal.returns-then-is_within
returns-then-is_within c =
    unmet-found c.loop-i.invariant (omega arith) c.kind_at.ensures.0 c.is_within.ensures c.if-is_within.true

pub loop-i-preserved : goal.loop-i-preserved
loop-i-preserved c =
    unmet-on c.loop-i.invariant (omega arith) c.kind_at.ensures.0 c.is_within.ensures c.if-is_within.false (omega arith)

pub returns : goal.returns
returns c = unmet-none c.loop-i.invariant (omega arith)
