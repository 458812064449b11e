use Rattle.contexts.specs.Context.{reference_number}
use Rattle.contexts.proofs.context.reference_number.Goals as goal

pub returns-in-Some : goal.returns-in-Some
unfolding reference_number
returns-in-Some c = rw c.in-Some.is

pub returns-in-None : goal.returns-in-None
unfolding reference_number
returns-in-None c = rw c.in-None.is
