use Rattle.record_conditions.specs.inner.Step.{off_source}
use Rattle.record_conditions.proofs.step.off_source.Goals as goal

pub returns : goal.returns
unfolding off_source
returns c = simp c.is_token.ensures
