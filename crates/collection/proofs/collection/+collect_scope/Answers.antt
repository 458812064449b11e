use Rattle.collection.proofs.Turns.{collection-with, collection-on, collected-none, collected-node}
use Rattle.collection.proofs.Quiet.{hands-visited, quiet-node, tokens-pass}
use Rattle.tables.specs.inner.Rows.{as_row}
use Rattle.collection.specs.Collection.{collected}
use Rattle.lent.proofs.Writes.{written_none, written_then}
use Rattle.forest.proofs.Writing.{writing, writing-turn, writing-end}
use Rattle.forest.proofs.Walks.{walk_end}
use Rattle.forest.proofs.NodeWalks.{node-start, node-on}
use native.Mathlib.Omega.{arith}
use Rattle.collection.proofs.collection.+collect_scope.Goals as goal

pub returns-then-kind_at-eq-WITH_CLAUSE : goal.returns-then-kind_at-eq-WITH_CLAUSE
returns-then-kind_at-eq-WITH_CLAUSE t c =
    (rw (collection-with _ _ _ c.kind_at.ensures.0 (omega arith)) c.own_part-next.ensures.0, omega arith)

pub loop-i-init : goal.loop-i-init
loop-i-init t c =
    (omega arith, node-start (writing as_row (collected _) _ _) (tokens-pass as_row _ _ _) _ _ (omega arith) c.node_from-i.ensures)

pub loop-i-preserved-then-hands_on : goal.loop-i-preserved-then-hands_on
loop-i-preserved-then-hands_on t c =
    let p = c.stretch_of-child.ensures.0 in (
      omega arith,
      node-on (writing as_row (collected _) _ _) (tokens-pass as_row _ _ _) c.loop-i.invariant.1 (omega arith) p (omega arith) c.node_from-i-then-hands_on.ensures
          (λ f. writing-turn as_row (collected _) (collected _) _ _ (collected-node _ _ _ _ f _ (omega arith) p (hands-visited _ _ 0 _ (omega arith) p (omega arith) c.hands_on.ensures c.if-hands_on.true)) (rw c.stretch_of-child.ensures.1 at c.collect_scope-next.ensures.0)),
    )

pub loop-i-preserved : goal.loop-i-preserved
loop-i-preserved t c =
    let p = c.stretch_of-child.ensures.0 in (
      omega arith,
      node-on (writing as_row (collected _) _ _) (tokens-pass as_row _ _ _) c.loop-i.invariant.1 (omega arith) p (omega arith) c.node_from-i-else-hands_on.ensures
          (λ f. writing-turn as_row (collected _) (collected _) _ _ (quiet-node _ _ _ _ (omega arith) p (omega arith) c.hands_on.ensures _ f c.if-hands_on.false) (written_none as_row _ _)),
    )

pub returns : goal.returns
returns t c =
    (rw (collection-on _ _ _ c.kind_at.ensures.0 (omega arith)) (written_then as_row c.own_part-next.ensures.0 (writing-end as_row (collected _) _ (collected-none _) (walk_end c.loop-i.invariant.1.walk (omega arith)))), omega arith)
