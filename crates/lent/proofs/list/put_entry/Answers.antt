use Rattle.lent.proofs.Writes.{putting-start, putting-next, putting-end, putting-none}
use native.Mathlib.Omega.{arith}
use Rattle.lent.proofs.list.put_entry.Goals as goal

pub returns-then-out-next : goal.returns-then-out-next
returns-then-out-next c = (putting-none _ _ _ (omega arith), omega arith)

pub loop-i-init : goal.loop-i-init
loop-i-init c = putting-start _ _ _

pub loop-i-preserved : goal.loop-i-preserved
loop-i-preserved c = putting-next _ _ _ c.loop-i.invariant (omega arith) c.put_number.ensures

pub returns : goal.returns
returns c = (putting-end _ _ _ c.loop-i.invariant (omega arith) (omega arith), omega arith)
