use Rattle.tables.proofs.Turns.{reading-passes, read_name, read-alias, read_table, read_join, read-other, read-end}
use Rattle.tables.proofs.WaitingLaws.{waiting-name, bound-at, alias-set}
use Rattle.tables.specs.inner.Rows.{as_row}
use Rattle.tables.specs.inner.Waiting.{pending_at}
use Rattle.tables.specs.Tables.{table_reading}
use Rattle.lent.proofs.Writes.{written_none, written_then}
use Rattle.forest.proofs.Writing.{writing, writing-turn, writing-last}
use Rattle.forest.proofs.Walks.{walk_end}
use Rattle.forest.proofs.NodeWalks.{node-start, node-on, node_over}
use mathlib.Core.Path.{refl, sym}
use native.Mathlib.Omega.{arith}
use Rattle.tables.proofs.tables.+collect_table_refs.Goals as goal

pub loop-i-init : goal.loop-i-init
loop-i-init t c =
    (omega arith, (tt, tt), unfold pending_at in node-start (writing as_row (table_reading _ _ _) _ _) (reading-passes as_row _ _ _ _ _) _ _ (omega arith) c.node_from-i.ensures)

pub loop-i-preserved-then-kind-eq-TABLE_IDENTIFIER : goal.loop-i-preserved-then-kind-eq-TABLE_IDENTIFIER
loop-i-preserved-then-kind-eq-TABLE_IDENTIFIER t c = (
  omega arith,
  (omega arith, tt),
  node-on (writing as_row (table_reading _ _ _) _ _) (reading-passes as_row _ _ _ _ _) c.loop-i.invariant.2 (omega arith) refl c.stretch_end.ensures.0 c.node_from-i-then-kind-eq-TABLE_IDENTIFIER.ensures
      (λ f. writing-turn as_row (table_reading _ _ _) (table_reading _ _ _) _ _ (read_name _ _ _ _ _ _ f _ (omega arith) (sym (waiting-name _ _ _ _ refl refl))) c.hand_on-next.ensures.0),
)

pub loop-i-preserved-then-kind-eq-TABLE_ALIAS : goal.loop-i-preserved-then-kind-eq-TABLE_ALIAS
loop-i-preserved-then-kind-eq-TABLE_ALIAS t c = (
  omega arith,
  (c.loop-i.invariant.1.0, omega (arith, c.alias_after.ensures.1)),
  node-on (writing as_row (table_reading _ _ _) _ _) (reading-passes as_row _ _ _ _ _) c.loop-i.invariant.2 (omega arith) refl c.stretch_end-then-kind-eq-TABLE_ALIAS.ensures.0 c.node_from-i-then-kind-eq-TABLE_ALIAS.ensures
      (λ f. writing-turn as_row (table_reading _ _ _) (table_reading _ _ _) _ _ (read-alias _ _ _ _ _ _ f (omega arith) refl (omega arith) (sym (bound-at _ _ _ _ refl refl)) (rw c.alias_after.ensures.0 (alias-set _ _ _ _ _ _))) (c.put_alias-next.ensures.0 _)),
)

pub loop-i-preserved-then-kind-eq-TABLE_EXPRESSION : goal.loop-i-preserved-then-kind-eq-TABLE_EXPRESSION
loop-i-preserved-then-kind-eq-TABLE_EXPRESSION t c = (
  omega arith,
  c.loop-i.invariant.1,
  node-on (writing as_row (table_reading _ _ _) _ _) (reading-passes as_row _ _ _ _ _) c.loop-i.invariant.2 (omega arith) c.stretch_of-child.ensures.0 (omega arith) c.node_from-i-then-kind-eq-TABLE_EXPRESSION.ensures
      (λ f. writing-turn as_row (table_reading _ _ _) (table_reading _ _ _) _ _ (read_table _ _ _ _ _ _ f _ (omega arith)) (rw c.stretch_of-child.ensures.1 at c.collect_table_refs-next.ensures.0)),
)

pub loop-i-preserved-then-kind-eq-JOIN_CLAUSE : goal.loop-i-preserved-then-kind-eq-JOIN_CLAUSE
loop-i-preserved-then-kind-eq-JOIN_CLAUSE t c = (
  omega arith,
  (tt, c.loop-i.invariant.1.1),
  node-on (writing as_row (table_reading _ _ _) _ _) (reading-passes as_row _ _ _ _ _) c.loop-i.invariant.2 (omega arith) c.stretch_of-child-then-kind-eq-JOIN_CLAUSE.ensures.0 (omega arith) c.node_from-i-then-kind-eq-JOIN_CLAUSE.ensures
      (λ f. unfold pending_at in writing-turn as_row (table_reading _ _ _) (table_reading _ _ _) _ _ (read_join _ _ _ _ _ _ f _ (omega arith)) (written_then as_row c.hand_on-next-then-kind-eq-JOIN_CLAUSE.ensures.0 (rw c.stretch_of-child-then-kind-eq-JOIN_CLAUSE.ensures.1 at c.collect_table_refs-next-then-kind-eq-JOIN_CLAUSE.ensures.0))),
)

pub loop-i-preserved : goal.loop-i-preserved
loop-i-preserved t c = (
  omega arith,
  c.loop-i.invariant.1,
  node_over (writing as_row (table_reading _ _ _) _ _) (reading-passes as_row _ _ _ _ _) c.loop-i.invariant.2 (omega arith) c.node_from-i-else-kind-eq-JOIN_CLAUSE.ensures
      (λ b f. writing-turn as_row (table_reading _ _ _) (table_reading _ _ _) _ _ (read-other _ _ _ _ _ _ f b (omega arith) (omega arith) (omega arith) (omega arith)) (written_none as_row _ _)),
)

pub returns : goal.returns
returns t c =
    (writing-last as_row (table_reading _ _ _) (table_reading _ _ _) _ (rw (read-end _ _ _) c.hand_on.ensures.0) (walk_end c.loop-i.invariant.2.walk (omega arith)), omega arith)
