use Rattle.tokens.specs.inner.Turns.{counts_for}
use Rattle.turns.proofs.turns.counts.Goals as goal

pub returns-in-LastToken : goal.returns-in-LastToken
unfolding counts_for
returns-in-LastToken c = rw c.in-LastToken.is

pub returns-in-ArgumentIndex : goal.returns-in-ArgumentIndex
unfolding counts_for
returns-in-ArgumentIndex c = rw c.in-ArgumentIndex.is
