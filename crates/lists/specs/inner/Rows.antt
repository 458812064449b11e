-- The rows of a list of a root, by which list is asked for, and how wide they are.
-- Definitions only. A reader of the questions needs none of them.
use Rattle.std.specs.Prelude.{ℕ, List}
use Rattle.clauses.specs.declared.clauses.ScopeList.{ScopeList}
use Rattle.clauses.specs.declared.clauses.ScopeList.TheVariants.{WithNames, TableAliases, ColumnAliases, TableRefs}
use Rattle.collection.specs.Collection.{collection_at}
use Rattle.collection.specs.inner.Rows.{own_rows}
use Rattle.references.specs.References.{reference_bytes}
use Rattle.names.specs.Bindings.{binding_bytes}

-- the list of record i
abbrev pub rows_at : ScopeList → List ℕ → List ℕ → ℕ → List (List ℕ)
rows_at asked src = collection_at (own_rows asked src)

-- how many bytes an entry has
unfoldable pub width : ScopeList → ℕ
width WithNames = binding_bytes
width TableAliases = binding_bytes
width ColumnAliases = binding_bytes
width TableRefs = reference_bytes
