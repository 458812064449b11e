use Rattle.text.specs.Text.{bytes_of}
use Rattle.tokens.specs.LastToken.{is_join_word}
use Rattle.tokens.proofs.last_token.is_join_word.Goals as goal

pub returns-then-is_word : goal.returns-then-is_word
unfolding is_join_word bytes_of
returns-then-is_word c = rw (← c.is_word.ensures, c.if-is_word.true)

pub returns : goal.returns
unfolding is_join_word bytes_of
returns c = rw (← c.is_word.ensures, c.if-is_word.false) c.is_word-2.ensures
