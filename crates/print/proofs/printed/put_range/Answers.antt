use Rattle.text.specs.Text.{bytes_of}
use Rattle.print.proofs.Writing.{put_then, range-absent, range-present}
use native.Mathlib.Omega.{arith}
use Rattle.print.proofs.printed.put_range.Goals as goal

pub returns-then-start-end : goal.returns-then-start-end
unfolding bytes_of
returns-then-start-end c =
    let a = c.args in (rw (range-absent a.start a.end c.if-start-end.true) c.put_text.ensures, omega arith)

pub returns : goal.returns
unfolding bytes_of
returns c =
    let a = c.args in (rw (range-present a.start a.end c.if-start-end.false) (put_then c.put_field-next.ensures.0 c.put_field.ensures.0), omega arith)
