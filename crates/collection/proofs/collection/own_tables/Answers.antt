use Rattle.collection.proofs.Turns.{tables-yes, tables-no}
use Rattle.tables.specs.inner.Rows.{as_row}
use Rattle.lent.proofs.Writes.{written_none}
use native.Mathlib.Omega.{arith}
use Rattle.collection.proofs.collection.own_tables.Goals as goal

pub returns-then-kind : goal.returns-then-kind
returns-then-kind c =
    (rw (← c.kind_at-kind.ensures.0, tables-yes _ c.kind_at-kind.result _ _ c.if-kind.true) c.collect_table_refs.ensures.0, omega arith)

pub returns-else-kind : goal.returns-else-kind
returns-else-kind c =
    (rw (← c.kind_at-kind.ensures.0, tables-no _ c.kind_at-kind.result _ _ c.if-kind.false) (written_none as_row _ _), omega arith)
