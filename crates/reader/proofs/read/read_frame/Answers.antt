use Rattle.lines.specs.inner.Reading.{ReadFrame}
use Rattle.lines.proofs.Reading.{no_source, no-offset, no_record, records-ruled, records-faulty, records-read, frame-faulty, frame-source, frame-offset, frame-table, source-front, source-short, numbers-long, some-left, none-left}
use lib.ListN.{take}
use lib.Seq.{length-take-le}
use mathlib.Core.Path.{sym, ap, ◌∙◌}
use Prim.Native.Nat.{◌/◌}
use native.Mathlib.Omega.{arith}
use Rattle.reader.proofs.read.read_frame.Goals as goal

pub returns-then-not-is_source : goal.returns-then-not-is_source
unfolding ReadFrame
returns-then-not-is_source c = rw c.refused.ensures (no_source _ c.line_end-end.ensures.0 c.is_source.ensures c.if-not-is_source.true)

pub returns-then-not-is_numbers : goal.returns-then-not-is_numbers
unfolding ReadFrame
returns-then-not-is_numbers c = rw c.refused-then-not-is_numbers.ensures (no-offset _ c.line_end-end.ensures.0 c.is_source.ensures c.if-not-is_source.false _ c.after_line-rest.ensures c.line_end-offset_end.ensures.0 c.is_numbers.ensures c.if-not-is_numbers.true)

pub returns-then-is_empty : goal.returns-then-is_empty
unfolding ReadFrame
returns-then-is_empty c =
    rw c.refused-then-is_empty.ensures (no_record _ c.line_end-end.ensures.0 c.is_source.ensures c.if-not-is_source.false _ c.after_line-rest.ensures c.line_end-offset_end.ensures.0 c.is_numbers.ensures c.if-not-is_numbers.false _ c.after_line-records.ensures (none-left _ c.is_empty.ensures c.if-is_empty.true))

pub read_source-requires : goal.read_source-requires
unfolding ReadFrame
read_source-requires c = omega (arith, source-short _ (sym c.is_source.ensures ∙ c.if-not-is_source.false))

pub number-requires : goal.number-requires
unfolding ReadFrame
number-requires c = omega (arith, numbers-long 8 _ (sym c.is_numbers.ensures ∙ c.if-not-is_numbers.false))

pub returns-in_err-n : goal.returns-in_err-n
unfolding ReadFrame
returns-in_err-n c =
    let f = records-faulty _ _ c.in_err-n.was c.read_records.ensures ∙ records-ruled _ c.line_end-end.ensures.0 c.is_source.ensures c.if-not-is_source.false _ c.after_line-rest.ensures c.line_end-offset_end.ensures.0 c.is_numbers.ensures c.if-not-is_numbers.false _ c.after_line-records.ensures (some-left _ c.is_empty.ensures c.if-is_empty.false) in
    frame-faulty _ _ _ c.from_residual.result c.from_residual.ensures.1 f

pub returns : goal.returns
unfolding ReadFrame
returns c =
    let a = c.args in
    let e = c.line_end-end.result in
    let l = length-take-le e a.input.now c.line_end-end.ensures.1 in
    let s = source-short _ (sym c.is_source.ensures ∙ c.if-not-is_source.false) in
    let q = records-read _ _ c.in_ok-n.was c.read_records.ensures in (
      q.0 ∙ records-ruled _ c.line_end-end.ensures.0 c.is_source.ensures c.if-not-is_source.false _ c.after_line-rest.ensures c.line_end-offset_end.ensures.0 c.is_numbers.ensures c.if-not-is_numbers.false _ c.after_line-records.ensures (some-left _ c.is_empty.ensures c.if-is_empty.false),
      omega arith,
      ap (take (e / 2)) c.read_source.ensures ∙ source-front (take e a.input.now) _ (sym l) (omega arith) ∙ sym (frame-source _ c.line_end-end.ensures.0 c.is_source.ensures c.if-not-is_source.false _ c.after_line-rest.ensures c.line_end-offset_end.ensures.0 c.is_numbers.ensures c.if-not-is_numbers.false _ c.after_line-records.ensures),
      c.number.ensures ∙ sym (frame-offset _ c.line_end-end.ensures.0 c.is_source.ensures c.if-not-is_source.false _ c.after_line-rest.ensures c.line_end-offset_end.ensures.0 c.is_numbers.ensures c.if-not-is_numbers.false _ c.after_line-records.ensures),
      q.2,
      q.3 ∙ sym (frame-table _ c.line_end-end.ensures.0 c.is_source.ensures c.if-not-is_source.false _ c.after_line-rest.ensures c.line_end-offset_end.ensures.0 c.is_numbers.ensures c.if-not-is_numbers.false _ c.after_line-records.ensures),
    )
