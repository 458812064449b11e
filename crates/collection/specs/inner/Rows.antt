-- How one walk serves the four lists: its entries are rows of numbers, and which list is asked for says what is a node's own part.
-- Definitions only. A reader of the questions needs none of them.
use Rattle.std.specs.Prelude.{ℕ, ◌*◌, List, map}
use Rattle.forest.specs.Forest.{Forest}
use Rattle.conditions.specs.Conditions.{most_records}
use Rattle.clauses.specs.declared.clauses.ScopeList.{ScopeList}
use Rattle.clauses.specs.declared.clauses.ScopeList.TheVariants.{WithNames, TableAliases, ColumnAliases, TableRefs}
use Rattle.tables.specs.declared.tables.Reads.TheVariants.{Aliases, References}
use Rattle.collection.specs.Collection.{own_with, own_columns, own_tables}
use Rattle.names.specs.Bindings.{binding_row}
use Rattle.tables.specs.inner.Rows.{rows_of, read_bytes}

-- a node's own part
unfoldable pub own_rows : ScopeList → List ℕ → ℕ → Forest → List (List ℕ)
own_rows WithNames src k below = map binding_row (own_with src k below)
own_rows TableAliases src k below = own_tables (rows_of Aliases) src k below
own_rows ColumnAliases src k below = map binding_row (own_columns src k below)
own_rows TableRefs src k below = own_tables (rows_of References) src k below

-- how many bytes a node's own part takes at most
abbrev pub own_bytes : ℕ
own_bytes = read_bytes * most_records
