-- What a climb by the parents that records carry rests on. A reader of the promises needs none of it.
-- Definitions only.
use Rattle.std.specs.Prelude.{ℕ, ◌+◌, ◌<◌, ◌≡◌, List, ◌∷◌}
use Rattle.records.specs.Table.{count, depth_at, parent_at}
use Rattle.forest.specs.Above.{above}

-- what a climb by the parents that records carry meets, step by step
pub record Climbs (t : List ℕ) : Type 0 where
  pub up : (i : ℕ) → 0 < i → i < count t → parent_at t i < i
  pub depth : (i : ℕ) → 0 < i → i < count t → depth_at t (parent_at t i) + 1 ≡ depth_at t i
  pub on : (i : ℕ) → 0 < i → i < count t → above t i ≡ parent_at t i ∷ above t (parent_at t i)
