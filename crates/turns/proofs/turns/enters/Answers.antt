use Rattle.tokens.specs.inner.Turns.{enters_for}
use Rattle.turns.proofs.turns.enters.Goals as goal

pub returns-in-LastToken : goal.returns-in-LastToken
unfolding enters_for
returns-in-LastToken c = rw c.in-LastToken.is

pub returns-in-ArgumentIndex : goal.returns-in-ArgumentIndex
unfolding enters_for
returns-in-ArgumentIndex c = rw c.in-ArgumentIndex.is
