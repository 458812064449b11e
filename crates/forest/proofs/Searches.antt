-- The search along a level, a record at a time: what it finds is the next child, and the end of a stretch.
--     searching-..           how far it is, with no record up to there that it stops at
--     reached-..             what the record that it stops at is
-- Assumes nothing.
use mathlib.Core.Path.{◌≡◌}
use mathlib.Core.Logic.{⊎_elim}
use mathlib.Core.List.{List}
use Prim.Native.Nat.{ℕ, zero, suc, ◌+◌, ◌-◌, ◌≤◌, ◌<◌}
use native.Mathlib.Omega.{arith}
use Rattle.records.specs.Table.{count, depth_at}
use Rattle.forest.specs.Forest.{stretch_end, Child, Reached}
use Rattle.lent.proofs.Cases.{lt-or-le}
use Rattle.forest.proofs.Laws.{Seeks, seeks-start, seeks-on, seeks-none, seeks-here, seeks-stop, Ends, ends-none, ends-here, ends_on, ends-start}

-- ---- the search along a level, a record at a time

pub record Searching (t : List ℕ) (k j i : ℕ) : Type 0 where
  pub on : j ≤ i
  pub within : i ≤ count t
  pub passed : (x : ℕ) → j ≤ x → x < i → k < depth_at t x

pub searching-start : (t : List ℕ) (k j : ℕ) → j ≤ count t → Searching t k j j
searching-start t k j h = record { on = omega arith; within = h; passed = λ x p q. absurd (omega arith) }

module _ {t : List ℕ} {k j i : ℕ} (v : Searching t k j i) where
  pub searching-here : depth_at t i ≤ k → Reached t k j i
  searching-here d = record { on = v.on; within = v.within; depth = λ h. d; passed = v.passed }

  pub searching-none : count t ≤ i → Reached t k j i
  searching-none h = record { on = v.on; within = v.within; depth = λ g. absurd (omega arith); passed = v.passed }

  pub searching-on : i < count t → k < depth_at t i → Searching t k j (i + 1)
  searching-on h d =
      record {
        on = omega (arith, v.on);
        within = omega arith;
        passed = λ x p q. ⊎_elim (λ g. v.passed x p g) (λ g. let z : x ≡ i = omega arith in rw z d) (lt-or-le x i);
      }

  -- where the rest is searched by another
  pub searching-then : {r : ℕ} → Reached t k i r → Reached t k j r
  searching-then w =
      record {
        on = omega (arith, v.on, w.on);
        within = w.within;
        depth = w.depth;
        passed = λ x p q. ⊎_elim (λ g. v.passed x p g) (λ g. w.passed x g q) (lt-or-le x i);
      }

-- two, three and four records on
pub searching-two : {t : List ℕ} {k j i : ℕ} → Searching t k j i → i + 2 ≤ count t → k < depth_at t i → k < depth_at t (i + 1) → Searching t k j (i + 2)
searching-two {i = i} v h a b =
    let z : i + 1 + 1 ≡ i + 2 = omega arith in
    rw z at (searching-on (searching-on v (omega arith) a) (omega arith) b)

pub searching-three : {t : List ℕ} {k j i : ℕ} → Searching t k j i → i + 3 ≤ count t → k < depth_at t i → k < depth_at t (i + 1) → k < depth_at t (i + 2) → Searching t k j (i + 3)
searching-three {i = i} v h a b c =
    let z : i + 2 + 1 ≡ i + 3 = omega arith in
    rw z at (searching-on (searching-two v (omega arith) a b) (omega arith) c)

pub searching-four : {t : List ℕ} {k j i : ℕ} → Searching t k j i → i + 4 ≤ count t → k < depth_at t i → k < depth_at t (i + 1) → k < depth_at t (i + 2) → k < depth_at t (i + 3) → Searching t k j (i + 4)
searching-four {i = i} v h a b c d =
    let z : i + 3 + 1 ≡ i + 4 = omega arith in
    rw z at (searching-on (searching-three v (omega arith) a b c) (omega arith) d)

-- ---- what is reached is the end of a stretch, or the next child

module _ {t : List ℕ} {k j r : ℕ} (w : Reached t k j r) where
  reached-ends : {e : ℕ} → Ends t k j e → r ≡ e
  reached-ends v = go (r - j) j (omega (arith, w.on)) (omega arith) v
    where
      stop : {e : ℕ} → Ends t k r e → r ≡ e
      stop u = ⊎_elim (λ h. ends-here u h (w.depth h)) (λ h. ends-none u h) (lt-or-le r (count t))

      go : (g x : ℕ) → g + x ≡ r → j ≤ x → {e : ℕ} → Ends t k x e → r ≡ e
      go zero x z h u = let q : x ≡ r = omega arith in stop (rw q at u)
      go (suc g) x z h u = go g (x + 1) (omega arith) (omega arith) (ends_on u (omega (arith, w.within)) (w.passed x h (omega arith)))

  reached-seeks : k ≡ depth_at t 0 + 1 → Seeks t j r
  reached-seeks e = go (r - j) j (omega (arith, w.on)) (omega arith) (seeks-start t j (omega (arith, w.on, w.within)))
    where
      go : (g x : ℕ) → g + x ≡ r → j ≤ x → Seeks t j x → Seeks t j r
      go zero x z h u = let q : x ≡ r = omega arith in rw q at u
      go (suc g) x z h u = go g (x + 1) (omega arith) (omega arith) (seeks-on u (omega (arith, w.within)) (omega (arith, w.passed x h (omega arith))))

  module _ (e : k ≡ depth_at t 0 + 1) where
    pub reached-none : count t ≤ r → {m : ℕ} → m ≡ count t → Child t j m
    reached-none h q = let z : r ≡ count t = omega (arith, w.within) in rw (q, ← z) (seeks-none (reached-seeks e) (omega arith))

    pub reached-stop : r < count t → depth_at t r < k → {m : ℕ} → m ≡ count t → Child t j m
    reached-stop h d q = rw q (seeks-stop (reached-seeks e) h (omega arith))

    pub reached-child : r < count t → k ≤ depth_at t r → Child t j r
    reached-child h d = seeks-here (reached-seeks e) (omega (arith, w.depth h))

-- the first record after i that is not deeper is the end of its stretch
pub reached-stretch : (t : List ℕ) (i : ℕ) {k r : ℕ} → k ≡ depth_at t i → Reached t k (i + 1) r → r ≡ stretch_end t i
reached-stretch t i e w = reached-ends w (ends-start t i _ e)
