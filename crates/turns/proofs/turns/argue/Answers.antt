use native.Mathlib.Omega.{arith}
use Rattle.tokens.specs.Function.{argued}
use borrow.Author.Tests.{eq-eqb, ne_eqb}
use Rattle.turns.proofs.turns.argue.Goals as goal

pub returns-then-kind-eq-OPENING_ROUND : goal.returns-then-kind-eq-OPENING_ROUND
unfolding argued
returns-then-kind-eq-OPENING_ROUND c = (rw (eq-eqb _ _ c.if-kind-eq-OPENING_ROUND.true), omega arith)

pub returns-in_err-index : goal.returns-in_err-index
unfolding argued
returns-in_err-index c =
    (rw (c.from_residual.ensures, ne_eqb _ _ c.if-kind-eq-OPENING_ROUND.false, eq-eqb _ _ c.if-kind-eq-COMMA.true, c.in_err-index.was), rw c.from_residual.ensures (omega arith))

pub returns-then-kind-eq-COMMA : goal.returns-then-kind-eq-COMMA
unfolding argued
returns-then-kind-eq-COMMA c =
    (rw (ne_eqb _ _ c.if-kind-eq-OPENING_ROUND.false, eq-eqb _ _ c.if-kind-eq-COMMA.true, c.in_ok-index.was), rw c.in_ok-index.was (omega arith))

pub returns : goal.returns
unfolding argued
returns c = (rw (ne_eqb _ _ c.if-kind-eq-OPENING_ROUND.false, ne_eqb _ _ c.if-kind-eq-COMMA.false), omega arith)
