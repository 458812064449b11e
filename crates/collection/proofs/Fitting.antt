-- What fits 32 bits in each node's own part of a list does in the list of a root; and a list is short where each own part has no more entries than its node
-- has records below it.
--     collection-fits     of the node's record and what is below it
--     collection-few      how many entries
-- Assumes nothing.
use Prim.Native.Nat.{ℕ, suc, ◌+◌, ◌*◌, ◌≤◌, ◌<◌}
use mathlib.Core.Bool.{Bool, true, false, cond}
use mathlib.Core.List.{List, [], ◌++◌}
use native.Mathlib.Omega.{arith}
use lib.Dec.{eqb}
use lib.ListN.{length, length-append}
use Rattle.records.specs.declared.record.Rec.{Rec}
use Rattle.records.specs.Kinds.{with_clause, subquery_expression}
use Rattle.conditions.specs.Conditions.{most_records}
use Rattle.lent.specs.Fit32.{AllFit32}
use Rattle.lent.proofs.Fit32.{fit-lists, fit-chosen}
use Rattle.forest.specs.Forest.{Forest, nil, token, node}
use Rattle.forest.specs.Limits.{size}
use Rattle.forest.proofs.Limits.{Inherited}
use Rattle.collection.specs.Collection.{node_gives, collected, collection}

module _ {E : Type 0} (row : E → List ℕ) (own : ℕ → Forest → List E) {P : Forest → Type 0} (parts : Inherited P) (fits : (k : ℕ) (f : Forest) → P f → AllFit32 row (own k f)) where
  none-fits : AllFit32 row []
  unfolding AllFit32
  none-fits = tt

  gives_fits : (k : ℕ) (f : Forest) (inner : List E) → P f → AllFit32 row inner → AllFit32 row (node_gives own k f inner)
  unfolding node_gives
  gives_fits k f inner w h = fit-lists row (own k f) _ (fits k f w) (fit-chosen row (eqb k with_clause) [] inner none-fits h)

  collected-fits : (f : Forest) → P f → AllFit32 row (collected own f)
  unfolding collected
  collected-fits nil w = none-fits
  collected-fits (token r rest) w = collected-fits rest (parts.behind-token w)
  collected-fits (node r below rest) w =
      fit-lists row _ (collected own rest)
      (fit-chosen row (eqb r.kind subquery_expression) [] _ none-fits (gives_fits r.kind below (collected own below) (parts.below w) (collected-fits below (parts.below w))))
      (collected-fits rest (parts.behind-node w))

  pub collection-fits : (r : Rec) (f : Forest) → P f → AllFit32 row (collection own r f)
  unfolding collection
  collection-fits r f w = gives_fits r.kind f (collected own f) w (collected-fits f w)

-- each of at most 4,096 records stands in the own part of at most as many nodes
module _ {E : Type 0} (own : ℕ → Forest → List E) (few : (k : ℕ) (f : Forest) → length (own k f) ≤ size f) where
  gives-few : (k : ℕ) (f : Forest) (inner : List E) → length (node_gives own k f inner) ≤ size f + length inner
  unfolding node_gives
  gives-few k f inner = go (eqb k with_clause)
    where
      go : (b : Bool) → length (own k f ++ cond b [] inner) ≤ size f + length inner
      go true = omega (arith, length-append (own k f) [], few k f)
      go false = omega (arith, length-append (own k f) inner, few k f)

  collected-few : (f : Forest) → size f ≤ most_records → length (collected own f) ≤ most_records * size f
  unfolding collected size
  collected-few nil h = omega arith
  collected-few (token r rest) h = omega (arith, collected-few rest (omega arith))
  collected-few (node r below rest) h =
      go (eqb r.kind subquery_expression) (gives-few r.kind below (collected own below)) (collected-few below (omega arith)) (collected-few rest (omega arith))
    where
      visited : List E
      visited = node_gives own r.kind below (collected own below)

      go : (b : Bool) → length visited ≤ size below + length (collected own below) → length (collected own below) ≤ most_records * size below
          → length (collected own rest) ≤ most_records * size rest → length (cond b [] visited ++ collected own rest) ≤ most_records * suc (size below + size rest)
      go true g p q = omega arith
      go false g p q = omega (arith, length-append visited (collected own rest))

  pub collection-few : (r : Rec) (f : Forest) → size f < most_records → length (collection own r f) ≤ most_records * most_records
  unfolding collection
  collection-few r f h = omega (arith, gives-few r.kind f (collected own f), collected-few f (omega arith))
