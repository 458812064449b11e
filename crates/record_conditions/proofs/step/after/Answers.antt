use Rattle.record_conditions.specs.inner.Step.{after}
use Rattle.record_conditions.proofs.step.after.Goals as goal

pub returns-then-is_token : goal.returns-then-is_token
unfolding after
returns-then-is_token c = simp (← c.is_token.ensures, c.if-is_token.true)

pub returns-else-is_token : goal.returns-else-is_token
unfolding after
returns-else-is_token c = simp (← c.is_token.ensures, c.if-is_token.false)
