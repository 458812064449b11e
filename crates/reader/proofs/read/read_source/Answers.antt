use Rattle.lines.proofs.Reading.{pairs_next, pairs_end}
use native.Mathlib.Omega.{arith}
use Rattle.reader.proofs.read.read_source.Goals as goal

pub loop-i-preserved : goal.loop-i-preserved
loop-i-preserved c =
    let a = c.args in pairs_next a.digits.now a.source.now c.loop-i.source c.loop-i.i c.loop-i.invariant (omega arith) c.value.ensures.0 c.value-in-loop-i.ensures.0

pub returns : goal.returns
returns c =
    let a = c.args in pairs_end a.digits.now a.source.now c.loop-i.source c.loop-i.i c.loop-i.invariant (omega arith)
