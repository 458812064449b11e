use borrow.Author.Tests.{eq-eqb, ne_eqb}
use Rattle.record_conditions.specs.inner.Step.{out_of_place}
use Rattle.record_conditions.proofs.step.out_of_place.Goals as goal

pub returns-then-r-eq0 : goal.returns-then-r-eq0
unfolding out_of_place
returns-then-r-eq0 c = simp (c.is_node.ensures, eq-eqb _ _ c.if-r-eq0.true)

pub returns-else-r-eq0 : goal.returns-else-r-eq0
unfolding out_of_place
returns-else-r-eq0 c = simp (ne_eqb _ _ c.if-r-eq0.false)
