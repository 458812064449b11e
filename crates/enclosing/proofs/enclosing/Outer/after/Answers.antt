use Rattle.enclosing.proofs.ClimbLaws.{outer-kept, outer-statement, outer-first}
use Rattle.enclosing.proofs.enclosing.Outer.after.Goals as goal

pub returns-in-Statement : goal.returns-in-Statement
returns-in-Statement c = outer-kept _ _ _ c.in-Statement.is

pub returns-in_default : goal.returns-in_default
returns-in_default c = outer-statement _ _ _ c.in_default.not-Statement c.is_statement.ensures c.if-is_statement.true

pub returns-in_default-2 : goal.returns-in_default-2
returns-in_default-2 c = outer-first _ _ _ c.in_default-2.not-Statement c.is_statement.ensures c.if-is_statement.false
