use Rattle.print.proofs.Writing.{put_then, decimal-short}
use native.Mathlib.Omega.{arith}
use Rattle.print.proofs.printed.put_field.Goals as goal

pub returns : goal.returns
returns c =
    (put_then c.put_byte-next.ensures c.put_decimal.ensures, omega (arith, decimal-short c.args.v c.requires.0))
