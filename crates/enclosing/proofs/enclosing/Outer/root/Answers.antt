use Rattle.enclosing.specs.inner.Climb.{outer_number}
use mathlib.Core.Path.{refl}
use Rattle.enclosing.proofs.enclosing.Outer.root.Goals as goal

pub returns-in-Nothing : goal.returns-in-Nothing
unfolding outer_number
returns-in-Nothing c = rw c.in-Nothing.is refl

pub returns-in-First : goal.returns-in-First
unfolding outer_number
returns-in-First c = rw c.in-First.is refl

pub returns-in-Statement : goal.returns-in-Statement
unfolding outer_number
returns-in-Statement c = rw c.in-Statement.is refl
