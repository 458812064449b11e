-- Where the search for the first child of record 0 that holds an offset may begin. A reader of the promises needs none of it.
-- Definitions only.
use Rattle.std.specs.Prelude.{ℕ, ◌+◌, ◌≤◌, ◌<◌, ◌≡◌, List}
use Rattle.records.specs.Table.{count, depth_at, records}
use Rattle.forest.specs.Forest.{kids, children}
use Rattle.forest.specs.Descent.{path}
use Rattle.records.specs.Ranges.{holds}

-- at record i, which is a child of record 0 or the count: the way down from there on is the whole
pub record Starts (t : List ℕ) (o i : ℕ) : Type 0 where
  pub from : 1 ≤ i
  pub to : i ≤ count t
  pub child : i < count t → depth_at t i ≡ depth_at t 0 + 1
  pub same : path (holds o) (children t 0 i) ≡ path (holds o) (kids (records 0 t))
