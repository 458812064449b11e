use Rattle.above.proofs.AboveLaws.{upward-start, upward-step, upward-end}
use mathlib.Core.Path.{refl}
use native.Mathlib.Omega.{arith}
use Rattle.above.proofs.above.collect_above.Goals as goal

pub loop-i-init : goal.loop-i-init
loop-i-init c = (omega arith, upward-start _ _ _)

pub slice_bounds-put_entry-end : goal.slice_bounds-put_entry-end
slice_bounds-put_entry-end c = refl

pub loop-i-smaller : goal.loop-i-smaller
loop-i-smaller c = omega (arith, c.parent_at-i.ensures.0, c.requires.1.up c.loop-i.i (omega arith) (omega arith))

pub loop-i-preserved : goal.loop-i-preserved
loop-i-preserved c =
    (omega (arith, c.parent_at-i.ensures.0, c.requires.1.up c.loop-i.i (omega arith) (omega arith)), upward-step _ _ c.loop-i.invariant.1 c.requires.1 (omega arith) (omega arith) c.parent_at-i.ensures.0 c.put_entry-next.ensures.0 c.put_entry-next.ensures.1)

pub shape_of-out : goal.shape_of-out
shape_of-out c = c.loop-i.invariant.0.2

pub returns : goal.returns
returns c = upward-end _ _ c.loop-i.invariant.1 (omega arith)
