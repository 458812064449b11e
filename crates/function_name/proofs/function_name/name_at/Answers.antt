use Rattle.function_name.proofs.Functions.{naming-none, naming-some, named_in}
use Rattle.tokens.specs.inner.Turns.{naming_of}
use borrow.Author.Tests.{eq-eqb, ne_eqb}
use Rattle.function_name.proofs.function_name.name_at.Goals as goal

pub returns-then-kind-eq-BARE_WORD : goal.returns-then-kind-eq-BARE_WORD
unfolding naming_of
returns-then-kind-eq-BARE_WORD c =
    λ base. rw (← c.kind_at-kind.ensures.0, eq-eqb _ _ c.if-kind-eq-BARE_WORD.true, c.token_at.ensures)

pub returns-then-kind-eq-OPENING_ROUND : goal.returns-then-kind-eq-OPENING_ROUND
unfolding naming_of
returns-then-kind-eq-OPENING_ROUND c =
    λ base. rw (← c.kind_at-kind.ensures.0, ne_eqb _ _ c.if-kind-eq-BARE_WORD.false, eq-eqb _ _ c.if-kind-eq-OPENING_ROUND.true)

pub returns-in_err-first_bare_word : goal.returns-in_err-first_bare_word
unfolding naming_of
returns-in_err-first_bare_word c =
    λ base. rw (c.from_residual.ensures, ← c.kind_at-kind.ensures.0, ne_eqb _ _ c.if-kind-eq-BARE_WORD.false, ne_eqb _ _ c.if-kind-eq-OPENING_ROUND.false, eq-eqb _ _ c.if-kind-eq-IDENTIFIER.true, named_in _ base _ c.rest_from.ensures.0 c.first_bare_word.ensures) (naming-none c.in_err-first_bare_word.was)

pub returns-then-kind-eq-IDENTIFIER : goal.returns-then-kind-eq-IDENTIFIER
unfolding naming_of
returns-then-kind-eq-IDENTIFIER c =
    λ base. rw (← c.kind_at-kind.ensures.0, ne_eqb _ _ c.if-kind-eq-BARE_WORD.false, ne_eqb _ _ c.if-kind-eq-OPENING_ROUND.false, eq-eqb _ _ c.if-kind-eq-IDENTIFIER.true, named_in _ base _ c.rest_from.ensures.0 c.first_bare_word.ensures) (naming-some c.in_ok-first_bare_word.was)

pub returns : goal.returns
unfolding naming_of
returns c =
    λ base. rw (← c.kind_at-kind.ensures.0, ne_eqb _ _ c.if-kind-eq-BARE_WORD.false, ne_eqb _ _ c.if-kind-eq-OPENING_ROUND.false, ne_eqb _ _ c.if-kind-eq-IDENTIFIER.false)
