use Rattle.report.proofs.Answers.{question-refused, question-read}
use mathlib.Core.Path.{refl}
use native.Mathlib.Omega.{arith}
use Rattle.report.proofs.output.put_reply.Goals as goal

pub put_answer-requires : goal.put_answer-requires
put_answer-requires c =
    let a = c.args in
    let w = c.table_refs.ensures in
    let q = question-read a.source.now a.table.now _ refl w.0 c.in-Ok.is w.1 in
    (q.0, omega arith, q.1, q.2, omega arith)

pub returns-in-Err : goal.returns-in-Err
returns-in-Err c =
    let a = c.args in
    let q = question-refused a.source.now a.table.now _ refl c.table_refs.ensures.0 c.in-Err.is a.offset in
    (rw (q, ← c.number.ensures) c.put_refusal.ensures.0, omega arith)

pub returns-in-Ok : goal.returns-in-Ok
returns-in-Ok c =
    let a = c.args in
    let w = c.table_refs.ensures in
    let q = (question-read a.source.now a.table.now _ refl w.0 c.in-Ok.is w.1).3 a.offset in
    (rw q c.put_answer.ensures.0, c.put_answer.ensures.1)
