-- Document 01, "Scope at the cursor": the root.
-- Definitions only.
use Rattle.std.specs.Prelude.{ℕ, List, Option, None, Some, unwrap_or}
use Rattle.records.specs.declared.record.Rec.{Rec}
use Rattle.statement.specs.Statement.{enclosing_at}
use Rattle.path.specs.Path.{path_at, deepest, is_subquery}

-- this node, else the statement, else record 0
unfoldable pub root_of : Option Rec → Option ℕ → ℕ
root_of None e = unwrap_or e 0
root_of (Some r) e = r.index

-- the root: the deepest kind 30 on the path, else the enclosing statement, else record 0
unfoldable pub root_at : List ℕ → ℕ → ℕ
root_at t o = root_of (deepest is_subquery (path_at t o)) (enclosing_at t o)
