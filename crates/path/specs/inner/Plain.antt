-- Nodes of which nothing is gathered: a run of them, as nested expressions are, is gone down at one go. A reader of the promises needs none of it.
-- Definitions only.
use Rattle.std.specs.Prelude.{ℕ, ◌+◌, ◌≤◌, ◌<◌, ◌≡◌, true, ◌&&◌, List}
use Rattle.records.specs.Kinds.{is_node, aggregate_function}
use Rattle.records.specs.Ranges.{spans}
use Rattle.records.specs.Table.{count, kind_at, depth_at, start_at, end_at}

-- no rule speaks of a node of this kind, and it is no statement, no subquery and no JoinConstraint
abbrev pub Plain : ℕ → Type 0
Plain k = aggregate_function < k

-- from record j of t down to record r: each is the first child of the one before it and holds the offset; and where r is not j itself, all of them are
-- plain, and so is the node above j, of kind a
pub record Run (a : ℕ) (t : List ℕ) (j o r : ℕ) : Type 0 where
  pub on : j ≤ r
  pub within : r < count t
  pub plain : (i : ℕ) → j ≤ i → i < r → Plain a × Plain (kind_at t i) × Plain (kind_at t (i + 1))
  pub child : (i : ℕ) → j ≤ i → i < r → depth_at t (i + 1) ≡ depth_at t i + 1
  pub held : (i : ℕ) → j ≤ i → i < r → (is_node (kind_at t (i + 1)) && spans o (start_at t (i + 1)) (end_at t (i + 1))) ≡ true
