use native.Mathlib.Omega.{arith}
use Rattle.brackets.proofs.OneByOne.{over-next, over_none}
use Rattle.brackets.proofs.bracket_matching.collect_brackets.Goals as goal

pub loop-i-init : goal.loop-i-init
loop-i-init c = (omega arith, over_none _ _ _)

pub loop-i-preserved : goal.loop-i-preserved
loop-i-preserved c =
    (omega arith, rw (over-next _ _ _ _, ← c.loop-i.invariant.1, ← c.kind_at.ensures.0) c.stack_step-top.ensures.0)

pub shape_of-stack : goal.shape_of-stack
shape_of-stack c = c.loop-i.invariant.0.1
