use borrow.Author.Tests.{le-leb, lt-leb, eq-eqb, ne_eqb}
use Rattle.in_order.proofs.in_order.first_fits.Goals as goal

pub returns-then-kind_at-gt-LAST_NODE : goal.returns-then-kind_at-gt-LAST_NODE
returns-then-kind_at-gt-LAST_NODE c = rw (← c.kind_at.ensures.0, lt-leb _ _ c.if-kind_at-gt-LAST_NODE.true)

pub returns-then-depth_at-ne0 : goal.returns-then-depth_at-ne0
returns-then-depth_at-ne0 c =
    rw (← c.kind_at.ensures.0, le-leb _ _ c.if-kind_at-gt-LAST_NODE.false, ← c.depth_at.ensures.0, ne_eqb _ _ c.if-depth_at-ne0.true)

pub returns : goal.returns
returns c =
    rw (← c.kind_at.ensures.0, le-leb _ _ c.if-kind_at-gt-LAST_NODE.false, ← c.depth_at.ensures.0, eq-eqb _ _ c.if-depth_at-ne0.false, ← c.parent_at.ensures.0)
