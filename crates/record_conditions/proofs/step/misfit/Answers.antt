use borrow.Author.Tests.{lt-ltb, le-ltb}
use Rattle.record_conditions.specs.inner.Step.{misfit_of}
use Rattle.record_conditions.proofs.step.misfit.Goals as goal

pub returns-then-strange : goal.returns-then-strange
unfolding misfit_of
returns-then-strange c = simp (← c.strange.ensures, c.if-strange.true)

pub returns-then-out_of_place : goal.returns-then-out_of_place
unfolding misfit_of
returns-then-out_of_place c = simp (← c.strange.ensures, c.if-strange.false, ← c.out_of_place.ensures, c.if-out_of_place.true)

pub returns-then-r-gt-MOST_DEPTH : goal.returns-then-r-gt-MOST_DEPTH
unfolding misfit_of
returns-then-r-gt-MOST_DEPTH c =
    simp (← c.strange.ensures, c.if-strange.false, ← c.out_of_place.ensures, c.if-out_of_place.false, lt-ltb _ _ c.if-r-gt-MOST_DEPTH.true)

pub returns : goal.returns
unfolding misfit_of
returns c =
    simp (← c.strange.ensures, c.if-strange.false, ← c.out_of_place.ensures, c.if-out_of_place.false, le-ltb _ _ c.if-r-gt-MOST_DEPTH.false)
