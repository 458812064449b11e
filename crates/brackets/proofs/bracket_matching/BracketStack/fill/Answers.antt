use native.Mathlib.Omega.{arith}
use Rattle.brackets.proofs.BracketLaws.{stack-length}
use Rattle.brackets.proofs.bracket_matching.BracketStack.fill.Goals as goal

pub returns : goal.returns
returns c = (c.stack_left-n.ensures.0, omega (arith, stack-length c.stack_left-n.new.stack c.stack_left-n.result))
