use Rattle.lent.proofs.Writes.{sets-part}
use mathlib.Core.Path.{refl}
use native.Mathlib.Omega.{arith}
use Rattle.print.proofs.printed.put_text.Goals as goal

pub returns : goal.returns
returns c =
    let a = c.args in record { bytes = sets-part a.text.now a.out.now a.at _ c.copy_from_slice.ensures.after (omega arith) (omega arith); next = refl }
