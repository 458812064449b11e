use Rattle.path.proofs.Steps.{way, way-gathered, nothing-within}
use Rattle.path.proofs.StartLaws.{starts-level}
use Rattle.path.proofs.Runs.{descent-run}
use Rattle.path.specs.inner.Gathered.{nothing}
use Rattle.forest.proofs.Descents.{descent-start, descent-walk, descent-on, descent-end}
use Rattle.records.specs.Table.{record_at}
use mathlib.Core.Path.{refl, sym, ◌∙◌}
use native.Mathlib.Omega.{arith}
use Rattle.descent.proofs.descent.path_from.Goals as goal

pub descent-init : goal.descent-init
unfolding record_at
descent-init c =
    (omega (arith, c.requires.1.from, c.requires.1.to), nothing-within _ (omega arith), starts-level _ _ c.requires.1 (descent-start (way _) _ nothing (omega arith) refl))

pub loop-i-init : goal.loop-i-init
unfolding record_at
loop-i-init c = (omega arith, rw (c.enter-g.ensures.0, c.kind_at.ensures.0) c.descent.invariant.2)

pub loop-i-preserved : goal.loop-i-preserved
unfolding record_at
loop-i-preserved c =
    (omega arith, descent-on c.loop-i.invariant.1 (omega arith) (sym c.is_holder.ensures ∙ c.if-is_holder.false) c.child_from-i.ensures)

pub rest_from-part-requires : goal.rest_from-part-requires
unfolding record_at
rest_from-part-requires c = omega (arith, c.run_down-last.ensures.within)

pub overflow_add-base : goal.overflow_add-base
unfolding record_at
overflow_add-base c = omega (arith, c.run_down-last.ensures.within)

pub child_from-i-requires-in-descent : goal.child_from-i-requires-in-descent
unfolding record_at
child_from-i-requires-in-descent c = omega (arith, c.run_down-last.ensures.within)

pub descent-smaller : goal.descent-smaller
unfolding record_at
descent-smaller c = omega (arith, c.run_down-last.ensures.on, c.run_down-last.ensures.within)

pub descent-preserved : goal.descent-preserved
unfolding record_at
descent-preserved c =
    let v = c.run_down-last.ensures in (omega (arith, v.within), c.enter-g.ensures.1 _ c.descent.invariant.1 (omega arith), descent-walk (descent-run c.loop-i.invariant.1 v (sym c.is_holder.ensures ∙ c.if-is_holder.true) c.rest_from-part.ensures.0) (omega (arith, v.within)) c.child_from-i-in-descent.ensures)

pub returns : goal.returns
unfolding record_at
returns c =
    ((rw c.rule_by_kind.ensures at c.settle.ensures.0) ∙ (descent-end c.loop-i.invariant.1 (omega arith) ∙ way-gathered _ _), c.settle.ensures.1 _ (c.enter-g.ensures.1 _ c.descent.invariant.1 (omega arith)))
