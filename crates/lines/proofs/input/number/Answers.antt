use Rattle.lines.proofs.Reading.{number-next, number-end, grown, roomy}
use native.Mathlib.Omega.{arith}
use Rattle.lines.proofs.input.number.Goals as goal

pub overflow_mul-v : goal.overflow_mul-v
overflow_mul-v c = omega (arith, roomy c.loop-d.v _ c.loop-d.invariant.0 (omega arith))

pub loop-d-preserved : goal.loop-d-preserved
loop-d-preserved c =
    (grown c.loop-d.v _ _ c.loop-d.invariant.0 c.value.ensures.1, number-next c.args.digits.now _ c.loop-d.v c.loop-d.invariant.1 (omega arith) c.value.ensures.0)

pub returns : goal.returns
returns c = number-end c.args.digits.now _ c.loop-d.v c.loop-d.invariant.1 (omega arith)
