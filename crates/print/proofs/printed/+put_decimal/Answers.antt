use Rattle.print.proofs.Writing.{put_then, decimal-small, decimal-large, decimal-length}
use Prim.Native.Nat.{◌/◌}
use native.Mathlib.Omega.{arith}
use Rattle.print.proofs.printed.+put_decimal.Goals as goal

pub returns-then-v-lt10 : goal.returns-then-v-lt10
returns-then-v-lt10 t c = rw (decimal-small c.args.v (omega arith)) c.put_byte.ensures

pub put_byte-requires-2 : goal.put_byte-requires-2
put_byte-requires-2 t c = omega (arith, decimal-length 8 (c.args.v / 10) (omega arith))

pub returns : goal.returns
returns t c =
    rw (decimal-large c.args.v (omega arith)) (put_then c.put_decimal-next.ensures c.put_byte-2.ensures)
