use Rattle.print.proofs.Writing.{put_then}
use native.Mathlib.Omega.{arith}
use Rattle.print.proofs.printed.put_refusal.Goals as goal

pub returns : goal.returns
returns c =
    (put_then c.put_byte-first.ensures (put_then (put_then c.put_field-second.ensures.0 c.put_field-third.ensures.0) c.put_byte.ensures), omega arith)
