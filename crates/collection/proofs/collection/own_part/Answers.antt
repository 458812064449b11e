use Rattle.collection.proofs.Turns.{with-yes, with-no, columns-yes, columns-no, aliases-are, references-are}
use Rattle.names.specs.Bindings.{binding_row}
use Rattle.tables.specs.inner.Rows.{as_row}
use Rattle.lent.proofs.Writes.{written_none, written-map}
use native.Mathlib.Omega.{arith}
use Rattle.collection.proofs.collection.own_part.Goals as goal

pub returns-then-kind-eq-WITH_CLAUSE : goal.returns-then-kind-eq-WITH_CLAUSE
returns-then-kind-eq-WITH_CLAUSE c =
    (rw (c.in-WithNames.is, ← c.kind_at-kind.ensures.0, with-yes _ _ _ c.if-kind-eq-WITH_CLAUSE.true) (written-map binding_row _ c.collect_ctes.ensures.0), omega arith)

pub returns-else-kind-eq-WITH_CLAUSE : goal.returns-else-kind-eq-WITH_CLAUSE
returns-else-kind-eq-WITH_CLAUSE c =
    (rw (c.in-WithNames.is, ← c.kind_at-kind.ensures.0, with-no _ _ _ c.if-kind-eq-WITH_CLAUSE.false) (written_none as_row _ _), omega arith)

pub returns-then-kind-eq-SELECT_CLAUSE : goal.returns-then-kind-eq-SELECT_CLAUSE
returns-then-kind-eq-SELECT_CLAUSE c =
    (rw (c.in-ColumnAliases.is, ← c.kind_at-kind.ensures.0, columns-yes _ _ _ c.if-kind-eq-SELECT_CLAUSE.true) (written-map binding_row _ c.collect_column_aliases.ensures.0), omega arith)

pub returns-else-kind-eq-SELECT_CLAUSE : goal.returns-else-kind-eq-SELECT_CLAUSE
returns-else-kind-eq-SELECT_CLAUSE c =
    (rw (c.in-ColumnAliases.is, ← c.kind_at-kind.ensures.0, columns-no _ _ _ c.if-kind-eq-SELECT_CLAUSE.false) (written_none as_row _ _), omega arith)

pub returns-in-TableAliases : goal.returns-in-TableAliases
returns-in-TableAliases c = (rw (c.in-TableAliases.is, aliases-are _ _ _) c.own_tables.ensures.0, omega arith)

pub returns-in-TableRefs : goal.returns-in-TableRefs
returns-in-TableRefs c = (rw (c.in-TableRefs.is, references-are _ _ _) c.own_tables-in-TableRefs.ensures.0, omega arith)
