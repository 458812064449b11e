use Rattle.lent.proofs.Verdicts.{refused-is, given_is}
use Rattle.report.proofs.Answers.{never_both}
use Rattle.print.specs.Printed.{statement_line}
use Rattle.text.specs.Text.{bytes_of}
use mathlib.Core.Path.{sym, ◌∙◌}
use native.Mathlib.Omega.{arith}
use Rattle.report.proofs.output.put_statement.Goals as goal

pub returns-in-Ok-Some : goal.returns-in-Ok-Some
returns-in-Ok-Some c =
    (rw (← (given_is _ _ (sym c.in-Ok-Some.is ∙ c.enclosing_statement.ensures)).1, c.in-Ok-Some.field-0-is) c.put_found.ensures.0, omega arith)

pub returns-in-Ok-None : goal.returns-in-Ok-None
returns-in-Ok-None c =
    (rw (← (given_is _ _ (sym c.in-Ok-None.is ∙ c.enclosing_statement.ensures)).1, c.in-Ok-None.field-0-is) (unfold statement_line bytes_of in c.put_text.ensures), omega arith)

pub returns-in-Err : goal.returns-in-Err
returns-in-Err c = absurd (never_both c.requires.0 (refused-is _ _ (sym c.in-Err.is ∙ c.enclosing_statement.ensures)))
