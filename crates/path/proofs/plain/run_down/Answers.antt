use Rattle.path.proofs.Runs.{run-start, run_on}
use Prim.Native.Nat.{◌-◌}
use mathlib.Core.Path.{◌≡◌, sym, ◌∙◌}
use native.Mathlib.Omega.{arith}
use Rattle.path.proofs.plain.run_down.Goals as goal

pub returns-then-above-le-LAST_RULED : goal.returns-then-above-le-LAST_RULED
returns-then-above-le-LAST_RULED c = run-start (omega arith)

pub returns-then-kind_at-le-LAST_RULED : goal.returns-then-kind_at-le-LAST_RULED
returns-then-kind_at-le-LAST_RULED c = run-start (omega arith)

pub loop-i-init : goal.loop-i-init
loop-i-init c = (omega arith, run-start (omega arith))

pub returns-then-depth_at-k : goal.returns-then-depth_at-k
returns-then-depth_at-k c = c.loop-i.invariant.1

pub returns-then-kind_at-le-LAST_RULED-2 : goal.returns-then-kind_at-le-LAST_RULED-2
returns-then-kind_at-le-LAST_RULED-2 c = c.loop-i.invariant.1

pub returns-then-not-is_holder : goal.returns-then-not-is_holder
returns-then-not-is_holder c = c.loop-i.invariant.1

pub loop-i-preserved : goal.loop-i-preserved
loop-i-preserved c =
    (omega arith, run_on c.loop-i.invariant.1 (omega arith) (omega arith) (omega arith) (sym c.is_holder.ensures ∙ c.if-not-is_holder.false))

pub returns : goal.returns
returns c = let e : c.loop-i.i ≡ c.count_of-m.result - 1 = omega arith in rw e at c.loop-i.invariant.1
