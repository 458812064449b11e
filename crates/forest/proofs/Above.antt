-- What stands above a record of an admitted table:
--     climbs         its parent, then what stands above that one
--     above-deep     as many nodes as it is deep
--     above-below    each a number of the table
-- Assumes nothing.
use Prim.Native.Nat.{ℕ, zero, suc, ◌+◌, ◌-◌, ◌≤◌, ◌<◌}
use mathlib.Core.Path.{◌≡◌, refl, sym, ap, ◌∙◌}
use mathlib.Core.Bool.{Bool, true, false, cond}
use mathlib.Core.List.{List, [], ◌∷◌}
use mathlib.Core.Logic.{⊎_elim}
use native.Mathlib.Omega.{arith}
use native.Mathlib.Numerals.{add-one}
use borrow.Author.Tests.{lt-ltb, le-ltb, eq-eqb, ne_eqb}
use lib.Dec.{ltb}
use lib.ListN.{length}
use Rattle.std.specs.Prelude.{Ok}
use Rattle.lent.specs.Verdicts.{Verdict}
use Rattle.records.specs.Table.{count, depth_at, parent_at}
use Rattle.forest.specs.Forest.{stretch_end}
use Rattle.conditions.specs.Conditions.{nearest}
use Rattle.table.specs.Rules.{verdict}
use Rattle.forest.specs.Sense.{Tidy}
use Rattle.forest.specs.Above.{above_among, above}
use Rattle.forest.specs.inner.Climbing.{Climbs}
use Rattle.lent.proofs.Cases.{lt-or-le, eq-or-not}
use Rattle.forest.proofs.Reaches.{reaches-yes, reaches-no}
use Rattle.forest.proofs.Sense.{admitted-tidy}

module _ (t : List ℕ) (n : ℕ) (w : Tidy t n) where
  -- record p is one less deep than record i, and all between are no less deep than i
  record Up (i p : ℕ) : Type 0 where
    before : p < i
    depth : depth_at t p + 1 ≡ depth_at t i
    between : (k : ℕ) → p < k → k < i → depth_at t i ≤ depth_at t k

  module _ (i : ℕ) (s : 0 < i) (c : i < count t) where
    under : 1 ≤ depth_at t i
    under = let e : i - 1 + 1 ≡ i = omega arith in rw e at (w.under (i - 1) (omega arith))

    -- the record just before j, where all from j on are no less deep than i
    found : (j : ℕ) → j ≤ i → ((k : ℕ) → j ≤ k → k < i → depth_at t i ≤ depth_at t k) → Up i (nearest t (depth_at t i) j)
    unfolding nearest
    found zero h deep = absurd (omega (arith, deep 0 (omega arith) s, w.top.1, under))
    found (suc j) h deep =
        ⊎_elim
        (λ e. rw (eq-eqb (depth_at t j + 1) (depth_at t i) e) (record { before = h; depth = e; between = λ k a b. deep k a b }))
        (λ e. rw (ne_eqb (depth_at t j + 1) (depth_at t i) e) (found j (omega arith) (λ k a b. on k a b e)))
        (eq-or-not (depth_at t j + 1) (depth_at t i))
      where
        -- record j + 1 is at most one deeper than j
        last : depth_at t i ≤ depth_at t j + 1
        last =
            ⊎_elim
            (λ (g : suc j < i). omega (arith, deep (suc j) (omega arith) g, rw (add-one j) at (w.step j (omega arith))))
            (λ (g : i ≤ suc j). let e : j + 1 ≡ i = omega arith in rw e at (w.step j (omega arith)))
            (lt-or-le (suc j) i)

        on : (k : ℕ) → j ≤ k → k < i → (depth_at t j + 1 ≡ depth_at t i → ⊥) → depth_at t i ≤ depth_at t k
        on k a b e =
            ⊎_elim
            (λ (g : j < k). deep k g b)
            (λ (g : k ≤ j).
            let z : k ≡ j = omega arith in
            rw z (⊎_elim (λ (x : depth_at t j < depth_at t i). absurd (e (omega (arith, last)))) (λ x. x) (lt-or-le (depth_at t j) (depth_at t i))))
            (lt-or-le j k)

    parent_up : Up i (parent_at t i)
    parent_up = rw (w.parents i c) (found i (omega arith) (λ k a b. absurd (omega arith)))

    abbrev p : ℕ
    p = parent_at t i

    -- what stands between the parent and the record is not above it
    skip : (j : ℕ) → p < j → j ≤ i → above_among t i j ≡ above_among t i (suc p)
    unfolding above_among
    skip zero a b = absurd (omega arith)
    skip (suc j) a b =
        ⊎_elim
        (λ (g : p < j).
        rw (le-ltb i (stretch_end t j) (reaches-no t j i c i (omega arith) (omega arith) (parent_up.between j g b)))
        (skip j g (omega arith)))
        (λ (g : j ≤ p). let z : j ≡ p = omega arith in rw z)
        (lt-or-le p j)

    -- the parent is
    here : above_among t i (suc p) ≡ p ∷ above_among t i p
    unfolding above_among
    here =
        rw (lt-ltb i (stretch_end t p)
        (reaches-yes t p i c parent_up.before
        (λ j a b.
        ⊎_elim
        (λ (g : j < i). omega (arith, parent_up.between j a g, parent_up.depth))
        (λ (g : i ≤ j). let z : j ≡ i = omega arith in rw z (omega (arith, parent_up.depth)))
        (lt-or-le j i))))

    -- what stands before the parent is above both or neither
    lower : (j : ℕ) → j ≤ p → above_among t i j ≡ above_among t p j
    unfolding above_among
    lower zero h = refl
    lower (suc x) h =
        ⊎_elim
        (λ (g : p < stretch_end t x). rw (lt-ltb p (stretch_end t x) g, lt-ltb i (stretch_end t x) (far g), lower x (omega arith)))
        (λ (g : stretch_end t x ≤ p).
        rw (le-ltb p (stretch_end t x) g, le-ltb i (stretch_end t x) (omega (arith, parent_up.before)), lower x (omega arith)))
        (lt-or-le p (stretch_end t x))
      where
        near : p < stretch_end t x → (j : ℕ) → x < j → j ≤ p → depth_at t x < depth_at t j
        near g j a b =
            ⊎_elim
            (λ d. d)
            (λ d. absurd (omega (arith, reaches-no t x p (omega (arith, parent_up.before)) j a b d)))
            (lt-or-le (depth_at t x) (depth_at t j))

        far : p < stretch_end t x → i < stretch_end t x
        far g =
            reaches-yes t x i c (omega (arith, parent_up.before))
            (λ j a b.
            ⊎_elim
            (λ (q : p < j).
            ⊎_elim
            (λ (r : j < i). omega (arith, parent_up.between j q r, parent_up.depth, near g p (omega arith) (omega arith)))
            (λ (r : i ≤ j). let z : j ≡ i = omega arith in rw z (omega (arith, parent_up.depth, near g p (omega arith) (omega arith))))
            (lt-or-le j i))
            (λ (q : j ≤ p). near g j a q)
            (lt-or-le p j))

    above_parent : above t i ≡ p ∷ above t p
    above_parent = skip i parent_up.before (omega arith) ∙ here ∙ ap (λ (l : List ℕ). p ∷ l) (lower p (omega arith))

  -- THE THEOREM
  pub climbs : Climbs t
  climbs = record { up = λ i s c. (parent_up i s c).before; depth = λ i s c. (parent_up i s c).depth; on = above_parent }

  top : (i : ℕ) → i ≤ 0 → length (above t i) ≡ depth_at t i
  unfolding above_among
  top i h = let z : i ≡ 0 = omega arith in rw z (sym w.top.1)

  deep : (g i : ℕ) → i ≤ g → i < count t → length (above t i) ≡ depth_at t i
  deep zero i h c = top i h
  deep (suc g) i h c =
      ⊎_elim
      (λ (s : 0 < i).
      let u = climbs.up i s c in
      rw (climbs.on i s c) (omega (arith, deep g (parent_at t i) (omega arith) (omega arith), climbs.depth i s c)))
      (λ (s : i ≤ 0). top i s)
      (lt-or-le 0 i)

  pub above-deep : (i : ℕ) → i < count t → length (above t i) ≡ depth_at t i
  above-deep i c = deep i i (omega arith) c

-- each of some numbers is below m
unfoldable pub AllBelow : ℕ → List ℕ → Type 0
AllBelow m [] = Unit
AllBelow m (x ∷ xs) = (x < m) × AllBelow m xs

pub below-chosen : (m : ℕ) (b : Bool) (xs ys : List ℕ) → AllBelow m xs → AllBelow m ys → AllBelow m (cond b xs ys)
below-chosen m true xs ys p q = p
below-chosen m false xs ys p q = q

among_below : (t : List ℕ) (n m i : ℕ) → i ≤ m → AllBelow m (above_among t n i)
unfolding above_among AllBelow
among_below t n m zero h = tt
among_below t n m (suc x) h =
    let on = among_below t n m x (omega arith) in
    below-chosen m (ltb n (stretch_end t x)) (x ∷ above_among t n x) (above_among t n x) (h, on) on

pub above-below : (t : List ℕ) (n m : ℕ) → n ≤ m → AllBelow m (above t n)
above-below t n m h = among_below t n m n h

-- of what the check says
pub admitted-climbs : (t : List ℕ) (n : ℕ) {v : Verdict} → v ≡ verdict t n 0 → v ≡ Ok tt → Climbs t
admitted-climbs t n e q = climbs t n (admitted-tidy t n 0 (sym e ∙ q))
