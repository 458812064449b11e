use Rattle.contexts.specs.inner.ByNumber.{clause_at}
use Rattle.contexts.proofs.trailing.clause_at.Goals as goal

pub returns-then-is_node-start_at : goal.returns-then-is_node-start_at
unfolding clause_at
returns-then-is_node-start_at c =
    rw (← c.kind_at-kind.ensures.0, ← c.start_at.ensures.0, ← c.end_at.ensures.0, ← c.is_node.ensures, c.if-is_node-start_at.true)

pub returns : goal.returns
unfolding clause_at
returns c =
    rw (← c.kind_at-kind.ensures.0, ← c.start_at.ensures.0, ← c.is_node.ensures, c.if-is_node-start_at.false)
