use Rattle.print.specs.Printed.{printed}
use Rattle.print.proofs.Writing.{put_then, words-split}
use Prim.Native.Nat.{◌+◌}
use native.Mathlib.Omega.{arith}
use Rattle.print.proofs.printed.put_line.Goals as goal

pub returns : goal.returns
unfolding printed
returns c =
    let a = c.args in let w = words-split a.list.now a.from a.n (a.m + a.m) in
    (rw (w.0, w.1) (put_then c.put_byte-first.ensures (put_then (put_then c.put_fields-second.ensures.0 c.put_ranges-third.ensures.0) c.put_byte.ensures)), omega arith)
