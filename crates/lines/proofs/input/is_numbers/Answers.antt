use Rattle.lines.specs.Lines.{is_numbers}
use lib.Seq.{length-take-le}
use native.Mathlib.Omega.{arith}
use Rattle.lines.proofs.input.is_numbers.Goals as goal

pub returns : goal.returns
unfolding is_numbers
returns c = rw (c.is_hex.ensures, length-take-le c.args.end c.args.text.now (omega arith))
