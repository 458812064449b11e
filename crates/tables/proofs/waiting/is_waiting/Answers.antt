use Rattle.tables.proofs.WaitingLaws.{waits}
use Rattle.tables.specs.inner.Waiting.{pending_at}
use Rattle.tables.proofs.waiting.is_waiting.Goals as goal

pub returns-in-None : goal.returns-in-None
unfolding pending_at
returns-in-None c = λ src alias. rw c.in-None.is

pub returns-in-Some : goal.returns-in-Some
returns-in-Some c = λ src alias. rw c.in-Some.is (waits src _ _ _ alias c.stretch_of.ensures.0 (rw c.stretch_of.ensures.1 at c.gives_reference.ensures src))
