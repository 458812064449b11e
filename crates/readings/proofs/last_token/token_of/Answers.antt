use Rattle.tokens.specs.inner.Turns.{token_of}
use Rattle.readings.proofs.last_token.token_of.Goals as goal

pub returns-in_err-i : goal.returns-in_err-i
unfolding token_of
returns-in_err-i c = rw (c.from_residual.ensures, c.in_err-i.was)

pub returns : goal.returns
unfolding token_of
returns c = rw (c.in_ok-i.was, c.token_at.ensures)
