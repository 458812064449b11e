use Rattle.path.specs.inner.Rules.{applies_over}
use Rattle.path.proofs.Steps.{any-over}
use Rattle.path.proofs.rules.applies_over.Goals as goal

pub returns-in-Insert : goal.returns-in-Insert
unfolding applies_over
returns-in-Insert c = rw c.in-Insert.is

pub returns-in-Definition : goal.returns-in-Definition
unfolding applies_over
returns-in-Definition c = rw c.in-Definition.is

pub returns-in-Start : goal.returns-in-Start
unfolding applies_over
returns-in-Start c = rw c.in-Start.is

pub returns-in_default : goal.returns-in_default
returns-in_default c = any-over _ _ c.in_default.not-Insert c.in_default.not-Definition c.in_default.not-Start
