use Rattle.tokens.specs.inner.Turns.{moved_to}
use native.Mathlib.Omega.{arith}
use Rattle.turns.proofs.turns.turn.Goals as goal

pub returns-then-not-counts : goal.returns-then-not-counts
unfolding moved_to
returns-then-not-counts c = (rw (← c.counts.ensures, c.if-not-counts.true), omega arith, c.requires.1, c.requires.2)

pub returns-in-LastToken : goal.returns-in-LastToken
unfolding moved_to
returns-in-LastToken c =
    (rw (← c.counts.ensures, c.if-not-counts.false, c.in-LastToken.is), omega arith, omega arith, c.requires.1)

pub returns-in-ArgumentIndex : goal.returns-in-ArgumentIndex
unfolding moved_to
returns-in-ArgumentIndex c =
    (rw (← c.counts.ensures, c.if-not-counts.false, c.in-ArgumentIndex.is, c.argue.ensures.0), c.argue.ensures.1, c.requires.1, c.requires.2)
