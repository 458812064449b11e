-- What a turn of the collection writes, by the kind of the record that it stands at.
-- Assumes nothing.
use Prim.Native.Nat.{ℕ, ◌+◌, ◌<◌}
use mathlib.Core.Path.{◌≡◌, refl, sym, ◌∙◌}
use mathlib.Core.Bool.{true, false, ◌||◌}
use mathlib.Core.List.{List, [], ◌++◌, map, append-nil}
use borrow.Author.Tests.{eq-eqb, ne_eqb}
use lib.Dec.{eqb}
use Rattle.std.specs.Prelude.{None}
use Rattle.records.specs.Kinds.{with_clause, select_clause, from_clause, join_clause, subquery_expression}
use Rattle.records.specs.Table.{count, kind_at, record_at, records, part}
use Rattle.forest.specs.Forest.{Forest, nil, node, kids, stretch_end}
use Rattle.forest.proofs.Laws.{head-part}
use Rattle.tables.specs.declared.tables.Reads.TheVariants.{Aliases, References}
use Rattle.clauses.specs.declared.clauses.ScopeList.TheVariants.{WithNames, TableAliases, ColumnAliases, TableRefs}
use Rattle.names.specs.Bindings.{with_items, select_aliases, binding_row}
use Rattle.collection.specs.Collection.{node_gives, collected, collection, own_with, own_columns, own_tables, collection_of}
use Rattle.tables.specs.Tables.{Listing, table_reading}
use Rattle.tables.specs.inner.Rows.{rows_of}
use Rattle.collection.specs.inner.Rows.{own_rows}
use Rattle.records.proofs.Fields.{kind-of, kind-yes, kind-no}

-- ---- collection, of any list

module _ {E : Type 0} (own : ℕ → Forest → List E) where
  -- a With is its own part, and any other node goes on with its children
  pub collection-with : (s : List ℕ) (base : ℕ) {k : ℕ} → k ≡ kind_at s 0 → k ≡ with_clause → collection_of own base s ≡ own (kind_at s 0) (kids (records base s))
  unfolding collection node_gives
  collection-with s base e w =
      rw (kind-of s base 0, eq-eqb (kind_at s 0) with_clause (sym e ∙ w)) (append-nil (own (kind_at s 0) (kids (records base s))))

  pub collection-on : (s : List ℕ) (base : ℕ) {k : ℕ} → k ≡ kind_at s 0 → (k ≡ with_clause → ⊥)
      → collection_of own base s ≡ own (kind_at s 0) (kids (records base s)) ++ collected own (kids (records base s))
  unfolding collection node_gives
  collection-on s base e w = rw (kind-of s base 0, ne_eqb (kind_at s 0) with_clause (λ x. w (e ∙ x)))

  pub collected-none : collected own nil ≡ []
  unfolding collected
  collected-none = refl

  module _ (s : List ℕ) (base i : ℕ) (f : Forest) where
    pub collected-sub : (below : Forest) → kind_at s i ≡ subquery_expression → collected own (node (record_at s base i) below f) ≡ collected own f
    unfolding collected
    collected-sub below e = rw (kind-yes s base i e)

    pub collected-node : (p : List ℕ) → i < count s → p ≡ part s i (stretch_end s i) → (kind_at s i ≡ subquery_expression → ⊥)
        → collected own (node (record_at s base i) (kids (records (base + i) p)) f) ≡ collection_of own (base + i) p ++ collected own f
    unfolding collected collection
    collected-node p h q n = rw (kind-no s base i subquery_expression n, head-part s base i h q)

-- ---- a node's own part of each list

module _ (src : List ℕ) (k : ℕ) (f : Forest) where
  pub with-yes : k ≡ with_clause → own_rows WithNames src k f ≡ map binding_row (with_items src f)
  unfolding own_rows own_with
  with-yes e = rw (eq-eqb k with_clause e)

  pub with-no : (k ≡ with_clause → ⊥) → own_rows WithNames src k f ≡ []
  unfolding own_rows own_with
  with-no e = rw (ne_eqb k with_clause e)

  pub columns-yes : k ≡ select_clause → own_rows ColumnAliases src k f ≡ map binding_row (select_aliases src f)
  unfolding own_rows own_columns
  columns-yes e = rw (eq-eqb k select_clause e)

  pub columns-no : (k ≡ select_clause → ⊥) → own_rows ColumnAliases src k f ≡ []
  unfolding own_rows own_columns
  columns-no e = rw (ne_eqb k select_clause e)

  pub aliases-are : own_rows TableAliases src k f ≡ own_tables (rows_of Aliases) src k f
  unfolding own_rows
  aliases-are = refl

  pub references-are : own_rows TableRefs src k f ≡ own_tables (rows_of References) src k f
  unfolding own_rows
  references-are = refl

  pub tables-yes : {E : Type 0} (L : Listing E) → (eqb k from_clause || eqb k join_clause) ≡ true → own_tables L src k f ≡ table_reading L src None f
  unfolding own_tables
  tables-yes L e = rw e

  pub tables-no : {E : Type 0} (L : Listing E) → (eqb k from_clause || eqb k join_clause) ≡ false → own_tables L src k f ≡ []
  unfolding own_tables
  tables-no L e = rw e
