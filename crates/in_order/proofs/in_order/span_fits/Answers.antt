use borrow.Author.Tests.{lt-ltb, le-ltb}
use Rattle.in_order.proofs.in_order.span_fits.Goals as goal

pub returns-then-start-last : goal.returns-then-start-last
returns-then-start-last c = rw (lt-ltb _ _ c.if-start-last.true)

pub returns : goal.returns
returns c = rw (le-ltb _ _ c.if-start-last.false)
