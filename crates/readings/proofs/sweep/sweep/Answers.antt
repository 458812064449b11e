use Rattle.forest.proofs.Walking.{sweeps-end, sweeps-stop, sweeps-over}
use Rattle.readings.proofs.Early.{swept-past}
use Rattle.readings.proofs.Sweeping.{among-more, up-to, meant-nothing, meant-turn, swept_none, swept-start, swept-token, swept-node}
use mathlib.Core.Path.{refl, ◌∙◌}
use native.Mathlib.Omega.{arith}
use Rattle.readings.proofs.sweep.sweep.Goals as goal
use Rattle.readings.proofs.sweep.sweep.Goals.{then-not-is_node+else-offset-start+else-reach-d, else-not-is_node+then-d-reach, else-not-is_node+else-d-reach}

pub returns-then-m-eq0 : goal.returns-then-m-eq0
returns-then-m-eq0 c = ((λ base. meant-nothing _ refl ∙ swept_none _ _ _ (omega arith) base), tt, tt)

pub loop-i-init : goal.loop-i-init
loop-i-init c = ((omega arith, tt, tt), swept-start _ _ _ (omega arith) (omega arith) (meant-nothing _ refl))

pub returns-then-d-k : goal.returns-then-d-k
returns-then-d-k c = (sweeps-stop c.loop-i.invariant.1.left (omega arith) (omega arith), among-more _ (omega arith) c.loop-i.invariant.0.1, among-more _ (omega arith) c.loop-i.invariant.0.2)

pub returns-then-offset-start : goal.returns-then-offset-start
returns-then-offset-start c =
    (swept-past c.loop-i.invariant.1 c.requires (omega arith) c.kind_at-kind.ensures.0 c.start_at-start.ensures.0 c.is_node.ensures c.if-not-is_node.true c.if-offset-start.true, among-more _ (omega arith) c.loop-i.invariant.0.1, among-more _ (omega arith) c.loop-i.invariant.0.2)

pub loop-i-preserved-then-reach-d : goal.loop-i-preserved-then-reach-d
loop-i-preserved-then-reach-d c =
    ((omega arith, among-more _ (omega arith) c.loop-i.invariant.0.1, among-more _ (omega arith) c.loop-i.invariant.0.2), record { left = sweeps-over c.loop-i.invariant.1.left (omega arith) (omega arith) (omega arith) })

pub loop-i-preserved : goal.loop-i-preserved
loop-i-preserved c =
    elim c.if-not-is_node.branch [
      | then-not-is_node+else-offset-start+else-reach-d w ↦ rw (w.w-is, w.reach-is) ((omega (arith, w.turn-w.ensures.1), up-to _ _ w.turn-w.ensures.2, up-to _ _ w.turn-w.ensures.3), swept-token c.loop-i.invariant.1 (omega arith) (omega arith) (omega (arith, w.if-reach-d.false)) c.depth_at-d.ensures.0 c.kind_at-kind.ensures.0 c.start_at-start.ensures.0 refl c.is_node.ensures w.if-not-is_node.true (meant-turn _ _ _ _ _ _ c.start_at-start.ensures.0 w.turn-w.ensures.0))
      | else-not-is_node+then-d-reach w ↦ rw (w.w-is, w.reach-is) ((omega arith, among-more _ (omega arith) c.loop-i.invariant.0.1, among-more _ (omega arith) c.loop-i.invariant.0.2), swept-node c.loop-i.invariant.1 (omega arith) (omega arith) (omega (arith, w.if-d-reach.true)) c.depth_at-d.ensures.0 c.kind_at-kind.ensures.0 c.start_at-start.ensures.0 w.end_at.ensures.0 c.is_node.ensures w.if-not-is_node.false w.enters.ensures w.reach_below-reach.ensures)
      | else-not-is_node+else-d-reach w ↦ rw (w.w-is, w.reach-is) ((omega arith, among-more _ (omega arith) c.loop-i.invariant.0.1, among-more _ (omega arith) c.loop-i.invariant.0.2), record { left = sweeps-over c.loop-i.invariant.1.left (omega arith) (omega arith) (omega (arith, w.if-d-reach.false)) })
    ]

pub returns : goal.returns
returns c = (sweeps-end c.loop-i.invariant.1.left (omega arith), among-more _ (omega arith) c.loop-i.invariant.0.1, among-more _ (omega arith) c.loop-i.invariant.0.2)
