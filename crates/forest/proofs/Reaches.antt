-- How far a stretch reaches: record n stands in the stretch of an earlier record x exactly if every record behind x, up to n, is deeper than x.
--     reaches-yes, reaches-no
-- Assumes nothing.
use Prim.Native.Nat.{ℕ, zero, suc, ◌+◌, ◌-◌, ◌≤◌, ◌<◌}
use mathlib.Core.Path.{◌≡◌, refl}
use mathlib.Core.List.{List}
use mathlib.Core.Logic.{⊎_elim}
use native.Mathlib.Omega.{arith}
use Rattle.records.specs.Table.{count, depth_at}
use Rattle.forest.specs.Forest.{stretch_end}
use Rattle.lent.proofs.Cases.{lt-or-le}
use Rattle.forest.proofs.Laws.{Ends, ends-start, ends_on, ends-here}

module _ (t : List ℕ) (x n : ℕ) (c : n < count t) where
  pub reaches-yes : x < n → ((j : ℕ) → x < j → j ≤ n → depth_at t x < depth_at t j) → n < stretch_end t x
  reaches-yes h deep = go (n - x) (x + 1) (omega arith) (omega arith) (ends-start t x (depth_at t x) refl)
    where
      go : (g j : ℕ) → g + j ≡ n + 1 → x < j → Ends t (depth_at t x) j (stretch_end t x) → n < stretch_end t x
      go zero j e l v = omega (arith, v.ends)
      go (suc g) j e l v = go g (j + 1) (omega arith) (omega arith) (ends_on v (omega arith) (deep j l (omega arith)))

  pub reaches-no : (w : ℕ) → x < w → w ≤ n → depth_at t w ≤ depth_at t x → stretch_end t x ≤ n
  reaches-no w h l d = go (w - (x + 1)) (x + 1) (omega arith) (ends-start t x (depth_at t x) refl)
    where
      go : (g j : ℕ) → g + j ≡ w → Ends t (depth_at t x) j (stretch_end t x) → stretch_end t x ≤ n
      go zero j e v =
          let q : j ≡ w = omega arith in
          omega (arith, ends-here v (omega arith) (rw q d))
      go (suc g) j e v =
          ⊎_elim
          (λ k. go g (j + 1) (omega arith) (ends_on v (omega arith) k))
          (λ k. omega (arith, ends-here v (omega arith) k))
          (lt-or-le (depth_at t x) (depth_at t j))
