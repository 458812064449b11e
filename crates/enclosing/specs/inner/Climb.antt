-- The climb to the roots around a root: what it knows on the way. A reader of the promise needs none of it.
-- t is the table's bytes.
-- Definitions only.
use Rattle.std.specs.Prelude.{ℕ, ◌+◌, ◌*◌, cond, List, [], ◌∷◌, Option, Some, None}
use Rattle.records.specs.Table.{kind_at}
use Rattle.conditions.specs.Conditions.{most_records, most_depth}
use Rattle.collection.specs.inner.Rows.{own_bytes}
use Rattle.seen.specs.inner.Room.{root_bytes}
use Rattle.path.specs.Path.{is_subquery}
use Rattle.statement.specs.Statement.{is_statement}
use Rattle.enclosing.specs.declared.enclosing.Outer.{Outer}
use Rattle.enclosing.specs.declared.enclosing.Outer.TheVariants.{Nothing, First, Statement}

-- what is known of the last enclosing root after a node of kind k and number x
unfoldable pub outer_root : Outer → ℕ → ℕ → Outer
outer_root (Statement s) k x = Statement s
outer_root _ k x = cond (is_statement k) (Statement x) First

-- the record that it stands for, if there is one
unfoldable pub outer_number : Outer → Option ℕ
outer_number Nothing = None
outer_number First = Some 0
outer_number (Statement s) = Some s

-- the last enclosing root, if there is one
unfoldable pub last_outer : Option ℕ → List ℕ
last_outer None = []
last_outer (Some s) = s ∷ []

-- the roots among the nodes that are still to come
unfoldable pub roots_from : List ℕ → Outer → List ℕ → List ℕ
roots_from t outer [] = last_outer (outer_number outer)
roots_from t outer (x ∷ xs) =
    let up : List ℕ = x ∷ roots_from t Nothing xs in
    let on : List ℕ = roots_from t (outer_root outer (kind_at t x) x) xs in
    cond (is_subquery (kind_at t x)) up on

-- ---- how many bytes there can be, so that no place wraps

-- of the roots around a root: one for each depth above it, and one more
abbrev pub around_bytes : ℕ
around_bytes = root_bytes * (most_depth + 1)

-- of the root's own list
abbrev pub own_list_bytes : ℕ
own_list_bytes = own_bytes * most_records
