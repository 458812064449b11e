use Rattle.tokens.specs.LastToken.{is_word}
use borrow.Author.Rules.{rules}
use Rattle.tokens.proofs.last_token.is_word.Goals as goal

pub returns-in-None : goal.returns-in-None
unfolding is_word
returns-in-None c = search rules

pub returns-in-Some : goal.returns-in-Some
unfolding is_word
returns-in-Some c = rw (c.in-Some.is, ← c.text_of.ensures) c.says.ensures
