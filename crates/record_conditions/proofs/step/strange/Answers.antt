use Rattle.record_conditions.specs.inner.Step.{strange}
use Rattle.record_conditions.proofs.step.strange.Goals as goal

pub returns : goal.returns
unfolding strange
returns c = simp (c.is_node.ensures, c.is_token.ensures)
