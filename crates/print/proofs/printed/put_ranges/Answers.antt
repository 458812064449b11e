use Rattle.print.proofs.Writing.{rest-turn, rest_end, ranges-turn, ranges-none}
use native.Mathlib.Omega.{arith}
use Rattle.print.proofs.printed.put_ranges.Goals as goal

pub loop-i-preserved : goal.loop-i-preserved
loop-i-preserved c =
    let a = c.args in (omega arith, rest-turn _ _ (ranges-turn a.list.now a.from a.n c.loop-i.i (omega arith)) (rw (c.word_at-start.ensures.0, c.word_at-end.ensures.0) at c.put_range-next.ensures.0) c.loop-i.invariant.1)

pub returns : goal.returns
returns c =
    let a = c.args in (rest_end _ (ranges-none a.list.now a.from a.n c.loop-i.i (omega arith)) c.loop-i.invariant.1, omega arith)
