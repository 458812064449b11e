use Rattle.std.proofs.Common.{rules}
use native.Mathlib.Omega.{arith}
use Rattle.lent.specs.Numbers.{le4}
use Rattle.lent.proofs.Writes.{sets-part}
use Rattle.lent.proofs.number.put_number.Goals as goal

pub returns : goal.returns
returns c = let a = c.args in sets-part (le4 a.v) a.out.now a.at _ (search rules) (omega arith) (omega arith)
