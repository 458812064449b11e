use Rattle.lines.specs.inner.Reading.{ReadRecords}
use Rattle.lines.proofs.Reading.{reading-faulty, reading-next, reading-few, reading-end, some-left, none-left}
use native.Mathlib.Omega.{arith}
use Rattle.reader.proofs.read.read_records.Goals as goal

pub returns-then-line-is_numbers : goal.returns-then-line-is_numbers
unfolding ReadRecords
returns-then-line-is_numbers c = rw c.refused.ensures (let l = c.loop-rest in reading-faulty _ (some-left _ c.is_empty.ensures c.loop-rest-test.true) l.invariant.1 c.line_end-end.ensures.0 c.is_numbers.ensures c.if-line-is_numbers.true)

pub loop-rest-preserved : goal.loop-rest-preserved
unfolding ReadRecords
loop-rest-preserved c =
    let l = c.loop-rest in ((omega (arith, reading-few l.n _ c.if-line-is_numbers.false), omega arith), reading-next _ (some-left _ c.is_empty.ensures c.loop-rest-test.true) l.invariant.1 c.line_end-end.ensures.0 c.is_numbers.ensures c.if-line-is_numbers.false c.put_record.ensures c.after_line-rest.ensures)

pub returns : goal.returns
unfolding ReadRecords
returns c = reading-end _ _ _ _ _ (none-left _ c.is_empty.ensures c.loop-rest-test.false) (omega arith) (omega arith) c.loop-rest.invariant.1
