use Rattle.seen.proofs.SeenLaws.{see-start, see-alone, see-end, see-stop, see-over, see-clause, see-on}
use Prim.Native.Nat.{◌-◌}
use native.Mathlib.Omega.{arith}
use Rattle.seen.proofs.seen.collect_seen.Goals as goal

pub returns-then-kind_at-eq-WITH_CLAUSE : goal.returns-then-kind_at-eq-WITH_CLAUSE
returns-then-kind_at-eq-WITH_CLAUSE c = (see-alone _ _ _ _ (omega arith) (omega arith) c.collect_items.ensures.0, omega arith)

pub loop-i-init : goal.loop-i-init
loop-i-init c = (omega arith, see-start _ _ _ _ _ c.rest_from-s.ensures.0 (omega arith) (omega arith))

pub returns-then-d-k : goal.returns-then-d-k
returns-then-d-k c =
    (see-stop _ _ _ _ (omega arith) (λ q. omega arith) c.loop-i.invariant.1 (omega arith) (omega arith), omega arith)

pub loop-i-preserved-then-reach-d : goal.loop-i-preserved-then-reach-d
loop-i-preserved-then-reach-d c =
    (omega arith, see-over _ _ _ _ (omega arith) (λ q. omega arith) c.loop-i.invariant.1 (omega arith) (omega arith) (omega arith))

pub loop-i-preserved-then-kind-eq-WITH_CLAUSE : goal.loop-i-preserved-then-kind-eq-WITH_CLAUSE
loop-i-preserved-then-kind-eq-WITH_CLAUSE c =
    (omega arith, see-clause _ _ _ _ (omega arith) (λ q. omega arith) c.loop-i.invariant.1 (omega arith) (omega arith) (omega arith) (omega arith) (omega arith) c.collect_items-next.ensures.0)

pub loop-i-preserved : goal.loop-i-preserved
loop-i-preserved c =
    (omega arith, see-on _ _ _ _ (omega arith) (λ q. omega arith) c.loop-i.invariant.1 (omega arith) (omega arith) (omega arith) (λ q. omega arith) (rw (c.visits.ensures, c.kind_at-kind.ensures.0, c.depth_at-d.ensures.0) at c.reach_below-reach.ensures))

pub returns : goal.returns
returns c = (see-end _ _ _ _ (omega arith) (λ q. omega arith) c.loop-i.invariant.1 (omega arith), omega arith)
