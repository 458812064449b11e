use Rattle.text.specs.Text.{bytes_of}
use Rattle.print.proofs.Writing.{put_then}
use Rattle.report.proofs.Answers.{answer-room}
use native.Mathlib.Omega.{arith}
use Rattle.report.proofs.output.put_answer.Goals as goal

pub put_text-requires : goal.put_text-requires
unfolding bytes_of
put_text-requires c =
    let h = answer-room c.args.n c.requires.3 c.put_context-first.ensures.1 c.put_statement-second.ensures.1 c.put_list-third.ensures.1 c.put_classes-fourth.ensures.1 c.put_openers-fifth.ensures.1 in
    omega (arith, h)

pub returns : goal.returns
unfolding bytes_of
returns c =
    let h = answer-room c.args.n c.requires.3 c.put_context-first.ensures.1 c.put_statement-second.ensures.1 c.put_list-third.ensures.1 c.put_classes-fourth.ensures.1 c.put_openers-fifth.ensures.1 in
    (put_then (put_then (put_then (put_then (put_then c.put_context-first.ensures.0 c.put_statement-second.ensures.0) c.put_list-third.ensures.0) c.put_classes-fourth.ensures.0) c.put_openers-fifth.ensures.0) c.put_text.ensures, rw c.put_text.ensures.next h)
