use Rattle.tokens.specs.LastToken.{dotted}
use Rattle.tokens.proofs.last_token.find_identifier_before_dot.Goals as goal

pub returns-then-is_sign : goal.returns-then-is_sign
unfolding dotted
returns-then-is_sign c = rw (← c.is_sign.ensures, c.if-is_sign.true)

pub returns-else-is_sign : goal.returns-else-is_sign
unfolding dotted
returns-else-is_sign c = rw (← c.is_sign.ensures, c.if-is_sign.false)
