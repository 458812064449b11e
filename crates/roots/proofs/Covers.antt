-- What stands below a record, against the table's numbers: of a node's children every record that is at or above one of them is that one.
--     stands-below, stands-below-known            the two tests on records, and what they say
--     at-below, at-below-known, at-below-then
--     inside-cover                                of the children of every record
--     Apart, apart-here, apart_in, apart_below    a record of siblings that no kind 30 is at or above, among them
--     nearest-self, nearest-below, nearest_in     whose nearest root is known then
--     one-root                                    and is no other
-- Assumes nothing.
use Prim.Native.Nat.{ℕ, zero, suc, ◌+◌, ◌-◌, ◌≤◌, ◌<◌}
use mathlib.Core.Path.{◌≡◌, refl, sym, ap, ◌∙◌}
use mathlib.Core.Bool.{true, false}
use mathlib.Core.List.{List, [], ◌∷◌}
use mathlib.Core.Logic.{◌⊎◌, inl, inr, ⊎_elim}
use native.Mathlib.Nat.{zero-add}
use native.Mathlib.Omega.{arith}
use borrow.Author.Tests.{lt-ltb, ltb-true, eq-eqb, ne_eqb}
use lib.Dec.{ltb}
use Rattle.records.specs.declared.record.Rec.{Rec}
use Rattle.records.specs.Table.{count, depth_at, kind_at, record_at, run, from}
use Rattle.forest.specs.Forest.{Forest, nil, token, node, level, kids, extent, stretch_end, inside}
use Rattle.lent.proofs.Cases.{lt-or-le, eq-or-not, both}
use Rattle.forest.proofs.Laws.{node-or-token, level-shallow, level-deep, level-token, level-node, extent-deep, extent-stop, from_cons}
use Rattle.records.proofs.Fields.{kind-of}
use Rattle.forest.proofs.Reaches.{reaches-yes, reaches-no}
use Rattle.path.specs.Path.{is_subquery}
use Rattle.forest.specs.Above.{stands_below}
use Rattle.roots.specs.Nearest.{at_or_below, NearestRoot, OneRoot}

module _ (t : List ℕ) where
  -- ---- the two tests

  pub stands-below : (n x : ℕ) → n < x → x < stretch_end t n → stands_below t n x ≡ true
  stands-below n x a b = rw (lt-ltb n x a, lt-ltb x (stretch_end t n) b)

  pub stands-below-known : (n x : ℕ) → stands_below t n x ≡ true → (n < x) × (x < stretch_end t n)
  stands-below-known n x e =
      let p = both (ltb n x) (ltb x (stretch_end t n)) e in
      (ltb-true n x p.0, ltb-true x (stretch_end t n) p.1)

  pub at-below : (n x : ℕ) → n ≤ x → x < stretch_end t n → at_or_below t n x ≡ true
  at-below n x a b =
      ⊎_elim
      (λ e. rw (eq-eqb x n e))
      (λ e. rw (ne_eqb x n e) (stands-below n x (omega arith) b))
      (eq-or-not x n)

  pub end-behind : (n : ℕ) → n < stretch_end t n
  unfolding stretch_end
  end-behind n = omega arith

  pub at-below-known : (n x : ℕ) → at_or_below t n x ≡ true → (n ≤ x) × (x < stretch_end t n)
  at-below-known n x h =
      ⊎_elim
      (λ (e : x ≡ n). (omega arith, omega (arith, end-behind n)))
      (λ (e : x ≡ n → ⊥). let p = stands-below-known n x (rw (ne_eqb x n e) at h) in (omega (arith, p.0), p.1))
      (eq-or-not x n)

  -- what is at or below a record that is at or below another is at or below that one
  deeper : (n x : ℕ) → x < count t → x < stretch_end t n → (j : ℕ) → n < j → j ≤ x → depth_at t n < depth_at t j
  deeper n x c h j a b = ⊎_elim (λ g. g) (λ g. absurd (omega (arith, reaches-no t n x c j a b g))) (lt-or-le (depth_at t n) (depth_at t j))

  pub at-below-then : (n x y : ℕ) → y < count t → (n ≤ x) × (x < stretch_end t n) → (x ≤ y) × (y < stretch_end t x) → (n ≤ y) × (y < stretch_end t n)
  at-below-then n x y c p q =
      ⊎_elim
      (λ (g : n < y). (
        omega arith,
        reaches-yes t n y c g (λ j a b.
            ⊎_elim
            (λ (k : j ≤ x). deeper n x (omega (arith, q.0)) p.1 j a k)
            (λ (k : x < j).
            let d : depth_at t x < depth_at t j = deeper x y c q.1 j k b in
            ⊎_elim
            (λ (l : n < x). omega (arith, deeper n x (omega (arith, q.0)) p.1 x l (omega arith)))
            (λ (l : x ≤ n). let e : n ≡ x = omega (arith, p.0) in rw e d)
            (lt-or-le n x))
            (at-most-or j x)),
      ))
      (λ (g : y ≤ n). let e : y ≡ n = omega (arith, p.0, q.0) in (omega arith, rw e (end-behind n)))
      (lt-or-le n y)
    where
      at-most-or : (a b : ℕ) → (a ≤ b) ⊎ (b < a)
      at-most-or a b = ⊎_elim inr inl (lt-or-le b a)

  -- ---- siblings, which take up the records from lo up to, not including, hi

  -- a node among them: of the records from lo on it alone is at or above itself
  pub record Sibling (lo hi : ℕ) (r : Rec) : Type 0 where
    pub low : lo ≤ r.index
    pub within : r.index < count t
    pub high : stretch_end t r.index ≤ hi
    pub itself : r ≡ record_at t 0 r.index
    pub alone : (y : ℕ) → lo ≤ y → y ≤ r.index → r.index < stretch_end t y → y ≡ r.index

  -- so is every node among them, and below each
  unfoldable pub Cover : ℕ → ℕ → Forest → Type 0
  Cover lo hi nil = Unit
  Cover lo hi (token r rest) = Cover lo hi rest
  Cover lo hi (node r below rest) =
      Sibling lo hi r × (below ≡ inside t r.index) × Cover (r.index + 1) (stretch_end t r.index) below × Cover lo hi rest

  extent-less : (d : ℕ) (rs : List Rec) → extent (d + 1) rs ≤ extent d rs
  unfolding extent
  extent-less d [] = omega arith
  extent-less d (r ∷ rs) =
      ⊎_elim
      (λ h. rw (extent-deep (d + 1) r rs h, extent-deep d r rs (omega arith)) (omega (arith, extent-less d rs)))
      (λ h. rw (extent-stop (d + 1) r rs h) (omega arith))
      (lt-or-le (d + 1) r.depth)

  alone_at : (i d lo : ℕ) → i < count t → depth_at t i ≡ d + 1 → ((j : ℕ) → lo ≤ j → j < i → d < depth_at t j)
      → (y : ℕ) → lo ≤ y → y ≤ i → i < stretch_end t y → y ≡ i
  alone_at i d lo h q deep y a b c =
      ⊎_elim
      (λ (g : y < i). absurd (omega (arith, reaches-no t y i h i g (omega arith) (omega (arith, deep y a g)))))
      (λ (g : i ≤ y). omega arith)
      (lt-or-le y i)

  sibling-at : (i d lo hi n : ℕ) → n ≡ count t - (i + 1) → i < count t → depth_at t i ≡ d + 1 → lo ≤ i
      → ((j : ℕ) → lo ≤ j → j < i → d < depth_at t j) → hi ≡ i + suc (extent d (run t 0 (i + 1) n)) → Sibling lo hi (record_at t 0 i)
  unfolding record_at stretch_end from
  sibling-at i d lo hi n m h q l deep e =
      rw (zero-add i)
      (record {
        low = l;
        within = h;
        high = rw (q, ← m) (omega (arith, extent-less d (run t 0 (i + 1) n)));
        itself = rw (zero-add i);
        alone = alone_at i d lo h q deep;
      })

  kids-are : (n i d : ℕ) → depth_at t i ≡ d + 1 → n ≡ count t - (i + 1) → i < count t
      → level (d + 1 + 1) (run t 0 (i + 1) n) ≡ inside t (record_at t 0 i).index
  unfolding kids record_at from
  kids-are n i d q m h = rw (zero-add i, from_cons t 0 i h, q, m)

  ends : (n i d : ℕ) → depth_at t i ≡ d + 1 → n ≡ count t - (i + 1) → stretch_end t i ≡ i + 1 + extent (d + 1) (run t 0 (i + 1) n)
  unfolding stretch_end from
  ends n i d q m = rw (q, m)

  same_number : (i : ℕ) (f : Forest) → Cover (i + 1) (stretch_end t i) f → Cover ((record_at t 0 i).index + 1) (stretch_end t (record_at t 0 i).index) f
  unfolding record_at
  same_number i f w = rw (zero-add i) w

  level-cover : (n i d lo hi : ℕ) → n ≡ count t - i → lo ≤ i → ((j : ℕ) → lo ≤ j → j < i → d < depth_at t j) → hi ≡ i + extent d (run t 0 i n)
      → Cover lo hi (level (d + 1) (run t 0 i n))
  unfolding run level Cover record_at
  level-cover zero i d lo hi e l deep q = tt
  level-cover (suc n) i d lo hi e l deep q =
      let r : Rec = record_at t 0 i in
      let rs : List Rec = run t 0 (i + 1) n in
      let m : n ≡ count t - (i + 1) = omega arith in
      ⊎_elim
      (λ (h : d < depth_at t i).
      let far : hi ≡ i + suc (extent d rs) = q ∙ ap (λ (x : ℕ). i + x) (extent-deep d r rs h) in
      let on : Cover lo hi (level (d + 1) rs) =
      level-cover n (i + 1) d lo hi m (omega arith)
      (λ j a b. ⊎_elim (λ (g : j < i). deep j a g) (λ (g : i ≤ j). let z : j ≡ i = omega arith in rw z h) (lt-or-le j i)) (omega arith) in
      ⊎_elim
      (λ g. rw (level-deep (d + 1) r rs g) on)
      (λ (g : depth_at t i ≤ d + 1).
      ⊎_elim
      (λ k.
      rw (level-node (d + 1) r rs (omega arith) k) (
        sibling-at i d lo hi n m (omega arith) (omega arith) l deep far,
        kids-are n i d (omega arith) m (omega arith),
        same_number i (level (d + 1 + 1) rs) (level-cover n (i + 1) (d + 1) (i + 1) (stretch_end t i) m (omega arith) (λ j a b. absurd (omega arith)) (ends n i d (omega arith) m)),
        on,
      ))
      (λ k. rw (level-token (d + 1) r rs (omega arith) k) on)
      (node-or-token (kind_at t i)))
      (lt-or-le (d + 1) (depth_at t i)))
      (λ h. rw (level-shallow (d + 1) r rs (omega arith)) tt)
      (lt-or-le d (depth_at t i))

  pub inside-cover : (n : ℕ) → n < count t → Cover (n + 1) (stretch_end t n) (inside t n)
  unfolding kids record_at stretch_end from
  inside-cover n h =
      rw (from_cons t 0 n h)
      (level-cover (count t - (n + 1)) (n + 1) (depth_at t n) (n + 1) (stretch_end t n) refl (omega arith) (λ j a b. absurd (omega arith)) refl)

  -- ---- a record of siblings that no kind 30 is at or above, among them

  pub record Apart (lo hi x : ℕ) : Type 0 where
    pub low : lo ≤ x
    pub high : stretch_end t x ≤ hi
    pub within : x < count t
    pub none : (y : ℕ) → lo ≤ y → y ≤ x → x < stretch_end t y → is_subquery (kind_at t y) ≡ false

  kind-is : {r : Rec} → r ≡ record_at t 0 r.index → kind_at t r.index ≡ r.kind
  kind-is {r} e = sym (ap (λ (q : Rec). q.kind) e ∙ kind-of t 0 r.index)

  module _ {lo hi : ℕ} {r : Rec} (s : Sibling lo hi r) (k : is_subquery r.kind ≡ false) where
    near : is_subquery (kind_at t r.index) ≡ false
    near = rw (kind-is s.itself) k

    -- a sibling of another kind is one
    pub apart-here : Apart lo hi r.index
    apart-here =
        record {
          low = s.low;
          high = s.high;
          within = s.within;
          none = λ y a b c. rw (s.alone y a b c) near;
        }

    -- and so is one below it
    pub apart_in : {x : ℕ} → Apart (r.index + 1) (stretch_end t r.index) x → Apart lo hi x
    apart_in {x} w =
        record {
          low = omega (arith, s.low, w.low);
          high = omega (arith, s.high, w.high);
          within = w.within;
          none = λ y a b c.
              ⊎_elim
              (λ (g : r.index < y). w.none y (omega arith) b c)
              (λ (g : y ≤ r.index). rw (s.alone y a g (omega (arith, w.low))) near)
              (lt-or-le r.index y);
        }

  -- one below a clause stands below it
  pub apart_below : (c x : ℕ) → Apart (c + 1) (stretch_end t c) x → stands_below t c x ≡ true
  apart_below c x w = stands-below c x (omega (arith, w.low)) (omega (arith, w.high, end-behind x))

  -- ---- the nearest root

  -- a root is its own
  pub nearest-self : (n : ℕ) → NearestRoot t n n
  nearest-self n =
      record {
        below = at-below n n (omega arith) (end-behind n);
        none_between = λ y a b. absurd (omega (arith, stands-below-known n y a, at-below-known y n b));
      }

  pub nearest-below : (n x : ℕ) → Apart (n + 1) (stretch_end t n) x → NearestRoot t n x
  nearest-below n x w =
      record {
        below = at-below n x (omega (arith, w.low)) (omega (arith, w.high, end-behind x));
        none_between = λ y a b. let p = at-below-known y x b in w.none y (omega (arith, stands-below-known n y a)) p.0 p.1;
      }

  -- in a clause of the root n
  pub nearest_in : (n c x : ℕ) → c < count t → stretch_end t c ≤ stretch_end t n → NearestRoot t n c → Apart (c + 1) (stretch_end t c) x → NearestRoot t n x
  nearest_in n c x h l v w =
      record {
        below = at-below n x (omega (arith, at-below-known n c v.below, w.low)) (omega (arith, w.high, end-behind x));
        none_between = λ y a b.
            let p = at-below-known y x b in
            ⊎_elim
            (λ (g : c < y). w.none y (omega arith) p.0 p.1)
            (λ (g : y ≤ c). v.none_between y a (at-below y c g (omega (arith, p.1, w.low))))
            (lt-or-le c y);
      }

  -- and not that of a root around it too
  pub one-root : OneRoot t
  one-root m n x b k v w =
      let e : is_subquery (kind_at t n) ≡ false = v.none_between n b w.below in
      let y : true ≡ false = sym k ∙ e in
      let z : ◌≡◌ {A = ℕ} 0 1 = cc in
      omega arith
