use Rattle.lines.specs.Lines.{is_digit}
use borrow.Author.Rules.{rules}
use Rattle.lines.proofs.input.is_digit.Goals as goal

pub returns : goal.returns
unfolding is_digit
returns c = search rules
