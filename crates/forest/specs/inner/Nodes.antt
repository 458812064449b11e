-- From child node to child node. A reader of the promises needs none of it.
-- Definitions only.
use Rattle.std.specs.Prelude.{ℕ, ◌+◌, ◌≤◌, ◌<◌, ◌≡◌, List}
use Rattle.records.specs.declared.record.Rec.{Rec}
use Rattle.records.specs.Kinds.{last_node}
use Rattle.records.specs.Table.{count, kind_at, depth_at}
use Rattle.forest.specs.Forest.{Forest, token, children}

-- the siblings g are the siblings f without some tokens in front
pub data PastTokens : Forest → Forest → Type 0 where
  none_passed : (f : Forest) → PastTokens f f
  token-passed : (r : Rec) (f g : Forest) → PastTokens f g → PastTokens (token r f) g

-- what a step to the next child node finds: from record j on, the first child that is a node is record r, or there is none and r is the count
pub record NodeChild (t : List ℕ) (j r : ℕ) : Type 0 where
  pub on : j ≤ r
  pub within : r ≤ count t
  pub depth : r < count t → depth_at t r ≡ depth_at t 0 + 1
  pub node : r < count t → kind_at t r ≤ last_node
  pub passed : (base : ℕ) → PastTokens (children t base j) (children t base r)
