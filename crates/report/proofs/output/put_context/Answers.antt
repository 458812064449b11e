use Rattle.lent.proofs.Verdicts.{refused-is, given_is}
use Rattle.report.proofs.Answers.{never_both}
use Rattle.cursor.proofs.Fitting.{context-fits}
use lib.ListN.{length}
use mathlib.Core.Path.{sym, ◌∙◌}
use native.Mathlib.Omega.{arith}
use Rattle.report.proofs.output.put_context.Goals as goal

pub put_code-requires : goal.put_code-requires
put_code-requires c =
    let g = (given_is _ _ (sym c.in-Ok.is ∙ c.cursor_context.ensures)).1 in
    (rw (← g) at (context-fits c.args.source.now c.args.table.now (length c.args.source.now) 0 c.args.offset c.requires.0), omega arith)

pub returns-in-Ok : goal.returns-in-Ok
returns-in-Ok c =
    (rw (← (given_is _ _ (sym c.in-Ok.is ∙ c.cursor_context.ensures)).1) c.put_code.ensures.0, omega arith)

pub returns-in-Err : goal.returns-in-Err
returns-in-Err c = absurd (never_both c.requires.0 (refused-is _ _ (sym c.in-Err.is ∙ c.cursor_context.ensures)))
