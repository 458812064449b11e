use Rattle.items.proofs.ItemLaws.{pick-start, pick_end, pick-stop, pick-over, pick-on, pick-held, pick-item}
use mathlib.Core.Path.{refl, sym, ◌∙◌}
use native.Mathlib.Omega.{arith}
use Rattle.items.proofs.items.collect_items.Goals as goal

pub loop-i-init : goal.loop-i-init
loop-i-init c = (omega arith, pick-start _ _ _ _ _ c.rest_from-s.ensures.0 (omega arith) (omega arith))

pub returns-then-d-k : goal.returns-then-d-k
returns-then-d-k c = (pick-stop _ _ _ c.loop-i.invariant.1 (omega arith) (omega arith), omega arith)

pub loop-i-preserved-then-reach-d : goal.loop-i-preserved-then-reach-d
loop-i-preserved-then-reach-d c = (omega arith, pick-over _ _ _ c.loop-i.invariant.1 (omega arith) (omega arith) (omega arith))

pub returns-then-is_below : goal.returns-then-is_below
returns-then-is_below c =
    (pick-held _ _ _ c.loop-i.invariant.1 (omega arith) (omega arith) (omega arith) (omega arith) c.rest_from-s.ensures.0 (sym c.is_below.ensures ∙ c.if-is_below.true), omega arith)

pub loop-i-preserved-then-kind-eq-WITH_EXPRESSION_ITEM : goal.loop-i-preserved-then-kind-eq-WITH_EXPRESSION_ITEM
loop-i-preserved-then-kind-eq-WITH_EXPRESSION_ITEM c =
    (omega arith, pick-item _ _ _ c.loop-i.invariant.1 (omega arith) (omega arith) (omega arith) (omega arith) c.rest_from-s.ensures.0 (omega arith) (sym c.is_below.ensures ∙ c.if-is_below.false) c.rest_from.ensures.0 refl c.put_cte-next.ensures.0)

pub loop-i-preserved : goal.loop-i-preserved
loop-i-preserved c =
    (omega arith, pick-on _ _ _ c.loop-i.invariant.1 (omega arith) (omega arith) (omega arith) (λ q. omega arith) (rw (c.kind_at-kind.ensures.0, c.depth_at-d.ensures.0) at c.reach_below-reach.ensures))

pub returns : goal.returns
returns c = (pick_end _ _ _ c.loop-i.invariant.1 (omega arith), omega arith)
