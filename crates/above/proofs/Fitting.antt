-- Every number of the records above a record of an admitted table fits 32 bits, and there are no more than a record is deep.
--     above-fits, above-few
-- Assumes nothing.
use Prim.Native.Nat.{ℕ, ◌≤◌, ◌<◌}
use mathlib.Core.Path.{◌≡◌, sym}
use mathlib.Core.List.{List, [], ◌∷◌}
use native.Mathlib.Omega.{arith}
use lib.ListN.{length}
use Rattle.std.specs.Prelude.{Ok}
use Rattle.lent.specs.Numbers.{word_limit}
use Rattle.lent.specs.Fit32.{Fit32, AllFit32}
use Rattle.records.specs.Table.{count}
use Rattle.conditions.specs.Conditions.{most_depth}
use Rattle.table.specs.Rules.{verdict}
use Rattle.forest.specs.Above.{above}
use Rattle.forest.proofs.Above.{AllBelow, above-below, above-deep}
use Rattle.forest.proofs.Sense.{admitted-tidy}
use Rattle.above.specs.Above.{above_row}

rows_fit : (xs : List ℕ) → AllBelow word_limit xs → AllFit32 above_row xs
unfolding AllBelow AllFit32 Fit32
rows_fit [] w = tt
rows_fit (x ∷ xs) w = ((w.0, tt), rows_fit xs w.1)

module _ (t : List ℕ) (n m i : ℕ) (a : Ok tt ≡ verdict t n m) (h : i < count t) where
  pub above-fits : AllFit32 above_row (above t i)
  above-fits = rows_fit (above t i) (above-below t i word_limit (omega (arith, (admitted-tidy t n m (sym a)).few)))

  pub above-few : length (above t i) ≤ most_depth
  above-few = let y = admitted-tidy t n m (sym a) in omega (arith, above-deep t n y i h, y.depths i h)
