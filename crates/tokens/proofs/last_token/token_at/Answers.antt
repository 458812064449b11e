use Rattle.tokens.specs.inner.Turns.{name_at}
use Rattle.tokens.proofs.last_token.token_at.Goals as goal

pub returns : goal.returns
unfolding name_at
returns c = rw (c.start_at.ensures.0, c.end_at.ensures.0)
