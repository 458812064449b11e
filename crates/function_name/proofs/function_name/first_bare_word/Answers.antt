use Rattle.function_name.proofs.Functions.{bare-here, bare-next}
use Rattle.forest.proofs.Walking.{walks-none, walks-start, walks-end}
use Rattle.tokens.specs.Function.{bare_word_in}
use native.Mathlib.Omega.{arith}
use Rattle.function_name.proofs.function_name.first_bare_word.Goals as goal

pub returns-then-m-eq0 : goal.returns-then-m-eq0
unfolding bare_word_in
returns-then-m-eq0 c = walks-none _ bare_word_in (omega arith)

pub loop-i-init : goal.loop-i-init
unfolding bare_word_in
loop-i-init c = (omega arith, walks-start _ bare_word_in (omega arith) c.child_from-i.ensures)

pub returns-then-kind_at-eq-BARE_WORD : goal.returns-then-kind_at-eq-BARE_WORD
unfolding bare_word_in
returns-then-kind_at-eq-BARE_WORD c =
    rw c.token_at.ensures (bare-here c.loop-i.invariant.1 (omega arith) c.kind_at.ensures.0 c.if-kind_at-eq-BARE_WORD.true)

pub loop-i-preserved : goal.loop-i-preserved
unfolding bare_word_in
loop-i-preserved c =
    (omega arith, bare-next c.loop-i.invariant.1 (omega arith) (λ e. c.if-kind_at-eq-BARE_WORD.false (omega arith)) c.child_from-i-in-loop-i.ensures)

pub returns : goal.returns
unfolding bare_word_in
returns c = walks-end c.loop-i.invariant.1 (omega arith)
