use Rattle.lines.specs.Lines.{is_source}
use lib.Seq.{length-take-le}
use native.Mathlib.Omega.{arith}
use Rattle.lines.proofs.input.is_source.Goals as goal

pub returns : goal.returns
unfolding is_source
returns c = rw (c.is_hex.ensures, length-take-le c.args.end c.args.text.now (omega arith))
