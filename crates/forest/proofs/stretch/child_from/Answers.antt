use Rattle.forest.proofs.Searches.{searching-start, searching-here, searching-none, reached-none, reached-stop, reached-child}
use mathlib.Core.Path.{refl}
use Prim.Native.Nat.{◌+◌}
use native.Mathlib.Omega.{arith}
use Rattle.forest.proofs.stretch.child_from.Goals as goal

pub returns-then-j-m : goal.returns-then-j-m
returns-then-j-m c =
    reached-none (searching-none (searching-start _ (c.depth_at-k.result + 1) _ (omega arith)) (omega arith)) (omega (arith, c.depth_at-k.ensures.0)) (omega arith) refl

pub returns-then-depth_at-k : goal.returns-then-depth_at-k
returns-then-depth_at-k c =
    reached-child (searching-here (searching-start _ (c.depth_at-k.result + 1) _ (omega arith)) (omega (arith, c.depth_at.ensures.0))) (omega (arith, c.depth_at-k.ensures.0)) (omega arith) (omega (arith, c.depth_at.ensures.0))

pub returns-then-i-m : goal.returns-then-i-m
returns-then-i-m c = reached-none c.far_from-i.ensures (omega (arith, c.depth_at-k.ensures.0)) (omega arith) refl

pub depth_at-requires-2 : goal.depth_at-requires-2
depth_at-requires-2 c = omega (arith, c.far_from-i.ensures.within)

pub returns-then-depth_at-k-2 : goal.returns-then-depth_at-k-2
returns-then-depth_at-k-2 c =
    reached-stop c.far_from-i.ensures (omega (arith, c.depth_at-k.ensures.0)) (omega (arith, c.far_from-i.ensures.within)) (omega arith) refl

pub returns : goal.returns
returns c =
    reached-child c.far_from-i.ensures (omega (arith, c.depth_at-k.ensures.0)) (omega (arith, c.far_from-i.ensures.within)) (omega arith)
