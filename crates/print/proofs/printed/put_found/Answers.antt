use Rattle.print.specs.Printed.{statement_line}
use Rattle.print.proofs.Writing.{put_then}
use native.Mathlib.Omega.{arith}
use Rattle.print.proofs.printed.put_found.Goals as goal

pub returns : goal.returns
unfolding statement_line
returns c =
    (put_then c.put_byte-first.ensures (put_then c.put_field-second.ensures.0 c.put_byte.ensures), omega arith)
