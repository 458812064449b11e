use borrow.Author.Tests.{lt-ltb, le-ltb}
use Rattle.conditions.proofs.whole.no_root.Goals as goal

pub returns-then-root-table : goal.returns-then-root-table
returns-then-root-table c = simp (lt-ltb _ _ c.if-root-table.true, c.is_node.ensures, c.kind_at.ensures.0)

pub returns-else-root-table : goal.returns-else-root-table
returns-else-root-table c = simp (le-ltb _ _ c.if-root-table.false)
