use Rattle.quotes.specs.Quotes.{name_of}
use native.Mathlib.Omega.{arith}
use borrow.Author.Tests.{eq-eqb, ne_eqb}
use Rattle.quotes.proofs.quotes.name_of.Goals as goal

pub returns-then-t-ne-QUOTED_IDENTIFIER : goal.returns-then-t-ne-QUOTED_IDENTIFIER
unfolding name_of
returns-then-t-ne-QUOTED_IDENTIFIER c = rw (ne_eqb c.args.t.kind 132 (omega arith), c.from-outer.ensures)

pub returns : goal.returns
unfolding name_of
returns c = rw (eq-eqb c.args.t.kind 132 (omega arith), c.from-outer.ensures, c.unquote-inner.ensures)
