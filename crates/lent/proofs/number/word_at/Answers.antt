use borrow.Author.Rules.{rules}
use Rattle.lent.specs.Numbers.{word}
use Rattle.lent.proofs.number.word_at.Goals as goal

pub returns : goal.returns
unfolding word
returns c = search rules
