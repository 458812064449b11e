use mathlib.Core.Path.{◌≡◌}
use native.Mathlib.Omega.{arith}
use Rattle.class_list.proofs.ClassLaws.{class-start, class-over, class-put}
use Rattle.class_list.proofs.class_list.collect_tokens.Goals as goal

pub loop-i-init : goal.loop-i-init
loop-i-init c = (omega arith, class-start _ _ _)

pub loop-i-preserved-then-kind-le-LAST_NODE : goal.loop-i-preserved-then-kind-le-LAST_NODE
loop-i-preserved-then-kind-le-LAST_NODE c = (omega arith, class-over _ _ _ _ c.loop-i.invariant.1 (omega (arith, c.kind_at-kind.ensures.0)))

pub kind_at-parent-requires : goal.kind_at-parent-requires
kind_at-parent-requires c = omega (arith, c.parent_at-above.ensures.0, c.requires.2.within c.loop-i.i (omega arith))

pub loop-i-preserved : goal.loop-i-preserved
loop-i-preserved c =
    (omega arith, class-put _ _ _ _ c.loop-i.invariant.1 c.classify_token-c.ensures c.kind_at-parent.ensures.0 c.parent_at-above.ensures.0 c.kind_at-kind.ensures.0 c.start_at-start.ensures.0 c.end_at-end.ensures.0 (omega arith) c.put_class-next.ensures.0)

pub shape_of-out : goal.shape_of-out
shape_of-out c = c.loop-i.invariant.0.2

pub returns : goal.returns
returns c =
    let e : c.loop-i.i ≡ c.count_of-m.result = omega arith in (rw (c.requires.2.flat _) (rw (e, c.count_of-m.ensures) at c.loop-i.invariant.1), omega arith)
