-- The clauses that a list is read from. A reader of the questions needs none of it.
-- Definitions only.
use Rattle.std.specs.Prelude.{ℕ, Bool, false, ◌&&◌, ◌||◌, List, [], ◌∷◌, leb}
use Rattle.records.specs.declared.record.Rec.{Rec}
use Rattle.records.specs.Kinds.{with_clause, select_clause, from_clause, join_clause}
use Rattle.clauses.specs.declared.clauses.ScopeList.{ScopeList}
use Rattle.clauses.specs.declared.clauses.ScopeList.TheVariants.{WithNames, TableAliases, ColumnAliases, TableRefs}

-- k is one of the kinds from the first to the last
abbrev pub in_kinds : ℕ → ℕ → ℕ → Bool
in_kinds first last k = leb first k && leb k last

-- some record has one of these kinds
unfoldable pub some_kind : ℕ → ℕ → List Rec → Bool
some_kind first last [] = false
some_kind first last (r ∷ rs) = in_kinds first last r.kind || some_kind first last rs

-- some record is a clause that the list is read from
unfoldable pub some_clause : ScopeList → List Rec → Bool
some_clause WithNames rs = some_kind with_clause with_clause rs
some_clause TableAliases rs = some_kind from_clause join_clause rs
some_clause ColumnAliases rs = some_kind select_clause select_clause rs
some_clause TableRefs rs = some_kind from_clause join_clause rs
