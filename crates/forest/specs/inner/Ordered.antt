-- Tokens that start in order: what a reading needs so that it may leave off at the first token that starts after an offset.
-- Definitions only. A reader of the promises needs none of it.
use Rattle.std.specs.Prelude.{ℕ, ◌≤◌, ◌<◌, List}
use Rattle.records.specs.Kinds.{last_node}
use Rattle.records.specs.Table.{count, kind_at, start_at}

-- of two tokens of a stretch, the later starts no earlier
pub record Ordered (t : List ℕ) : Type 0 where
  pub starts : (i j : ℕ) → i < j → j < count t → last_node < kind_at t i → last_node < kind_at t j → start_at t i ≤ start_at t j
