use Rattle.forest.proofs.Searches.{searching-start, searching-here, searching-on, searching-two, searching-three, searching-four, searching-then}
use native.Mathlib.Omega.{arith}
use Rattle.forest.proofs.stretch.far_from.Goals as goal

pub loop-i-init : goal.loop-i-init
loop-i-init c = searching-start _ _ _ (omega arith)

pub overflow_add-i : goal.overflow_add-i
overflow_add-i c = omega (arith, c.loop-i.invariant.within)

pub returns-then-depth_at-k : goal.returns-then-depth_at-k
returns-then-depth_at-k c = searching-here c.loop-i.invariant (omega arith)

pub returns-then-depth_at-k-2 : goal.returns-then-depth_at-k-2
returns-then-depth_at-k-2 c = searching-here (searching-on c.loop-i.invariant (omega arith) (omega arith)) (omega arith)

pub returns-then-depth_at-k-3 : goal.returns-then-depth_at-k-3
returns-then-depth_at-k-3 c =
    searching-here (searching-two c.loop-i.invariant (omega arith) (omega arith) (omega arith)) (omega arith)

pub returns-then-depth_at-k-4 : goal.returns-then-depth_at-k-4
returns-then-depth_at-k-4 c =
    searching-here (searching-three c.loop-i.invariant (omega arith) (omega arith) (omega arith) (omega arith)) (omega arith)

pub loop-i-preserved : goal.loop-i-preserved
loop-i-preserved c =
    searching-four c.loop-i.invariant (omega arith) (omega arith) (omega arith) (omega arith) (omega arith)

pub level_from-requires : goal.level_from-requires
level_from-requires c = c.loop-i.invariant.within

pub returns : goal.returns
returns c = searching-then c.loop-i.invariant c.level_from.ensures
