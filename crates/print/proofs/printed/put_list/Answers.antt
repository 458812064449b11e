use Rattle.print.proofs.Writing.{rest-turn, rest_end, lists-turn-at, lists-none}
use Prim.Native.Nat.{◌+◌}
use native.Mathlib.Omega.{arith}
use Rattle.print.proofs.printed.put_list.Goals as goal

pub loop-i-preserved : goal.loop-i-preserved
loop-i-preserved c =
    let a = c.args in (omega arith, rest-turn _ _ (lists-turn-at a.letter a.n (a.n + (a.m + a.m)) a.list.now c.loop-i.i a.k (omega arith)) c.put_line-next.ensures.0 c.loop-i.invariant.1)

pub returns : goal.returns
returns c =
    let a = c.args in (rest_end _ (lists-none a.letter a.n (a.n + (a.m + a.m)) a.list.now _ a.k c.loop-i.i (omega arith)) c.loop-i.invariant.1, omega arith)
