use Rattle.cursor.proofs.Replies.{first-given, path-given, last-given}
use Rattle.forest.proofs.Orders.{ordered-rest}
use native.Mathlib.Omega.{arith}
use Rattle.cursor.proofs.cursor_context.analyze_path.Goals as goal

pub returns-in-Some : goal.returns-in-Some
returns-in-Some c = first-given _ _ _ _ c.check_trailing_clause.ensures c.in-Some.is

pub rule_context-requires : goal.rule_context-requires
rule_context-requires c = (omega (arith, rw c.in-Some-ruling.is at c.requires.1.ruling), ordered-rest c.in-Some-ruling.ruling.node c.requires.2 c.rest_from-s.ensures.0)

pub returns-in-Some-ruling : goal.returns-in-Some-ruling
returns-in-Some-ruling c =
    path-given _ _ _ _ c.check_trailing_clause.ensures c.in_default.is c.in-Some-ruling.is c.rest_from-s.ensures.0 (λ base. rw (← c.number.ensures) (c.rule_context.ensures base))

pub at_statement_start-requires : goal.at_statement_start-requires
at_statement_start-requires c = (omega arith, c.requires.2)

pub returns : goal.returns
returns c =
    last-given _ _ _ _ c.check_trailing_clause.ensures c.in_default.is c.in_default-ruling.is c.at_statement_start.ensures
