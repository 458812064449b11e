use Rattle.path.proofs.Steps.{settles}
use Rattle.path.specs.inner.Gathered.{ruling_of, settled_by}
use Rattle.path.proofs.gathered.settle.Goals as goal

pub returns-in-None : goal.returns-in-None
returns-in-None c = settles _ _ _ (unfold settled_by ruling_of in rw c.in-None.is)

pub returns-in-Some : goal.returns-in-Some
returns-in-Some c = settles _ _ _ (unfold settled_by ruling_of in rw c.in-Some.is)
