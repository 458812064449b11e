-- The cursor's root is the deepest kind 30 node on the path, where there is one.
--     deepest-query    on every table that has a record
-- Assumes nothing.
use Prim.Native.Nat.{ℕ, ◌+◌, ◌≤◌, ◌<◌}
use mathlib.Core.Path.{◌≡◌, refl, sym, ap, ◌∙◌}
use mathlib.Core.Bool.{Bool, true, false, cond}
use mathlib.Core.List.Memᴰ
use mathlib.Core.List.{List, [], ◌∷◌, Memᴰ}
use mathlib.Core.Logic.{⊎_elim}
use native.Mathlib.Omega.{arith}
use Rattle.std.specs.Prelude.{Option, None, Some}
use Rattle.records.specs.declared.record.Rec.{Rec}
use Rattle.records.specs.Table.{count, depth_at}
use Rattle.forest.specs.Forest.{stretch_end}
use Rattle.forest.proofs.Laws.{end-within}
use Rattle.path.specs.Path.{path_at, deepest_or, is_subquery}
use Rattle.path.proofs.Nests.{Nested, path-nested}
use Rattle.cursor_root.specs.Root.{root_of, root_at}
use Rattle.roots.specs.Nearest.{QueryOnPath, DeepestQuery}
use Rattle.roots.proofs.Covers.{end-behind, at-below, at-below-then}

module _ (t : List ℕ) where
  -- at or below, as numbers
  abbrev Encloses : ℕ → ℕ → Type 0
  Encloses n x = (n ≤ x) × (x < stretch_end t n)

  -- of a path whose kind 30 nodes so far end in a: the last of them
  record Last (best : Option Rec) (l whole : List Rec) (a : ℕ) : Type 0 where
    it : Rec
    found : deepest_or best is_subquery l ≡ Some it
    on : Memᴰ it whole
    query : is_subquery it.kind ≡ true
    holds : Encloses a it.index

  later : (best : Option Rec) (c : Rec) (l whole : List Rec) (a : ℕ) → Last (cond (is_subquery c.kind) (Some c) best) l whole a → Last best (c ∷ l) whole a
  unfolding deepest_or
  later best c l whole a w = record { it = w.it; found = w.found; on = w.on; query = w.query; holds = w.holds }

  starts : (best : Option Rec) (c : Rec) (l whole : List Rec) (a : ℕ) → is_subquery c.kind ≡ true → a ≡ c.index → Last (Some c) l whole c.index → Last best (c ∷ l) whole a
  unfolding deepest_or
  starts best c l whole a k e w = record { it = w.it; found = rw k w.found; on = w.on; query = w.query; holds = rw e w.holds }

  last : (l : List Rec) (a : Rec) (b d : ℕ) → is_subquery a.kind ≡ true → b < count t → Encloses a.index b → Nested t (b + 1) (stretch_end t b) d l
      → Last (Some a) l (a ∷ l) a.index
  unfolding deepest_or Nested
  last [] a b d k h p n = record { it = a; found = refl; on = Memᴰ.head refl; query = k; holds = (omega arith, omega (arith, p.0, p.1)) }
  last (c ∷ l) a b d k h p n =
      let m : c.index < count t = omega (arith, n.1, end-within t 0 0 b h) in
      let q : Encloses a.index c.index = at-below-then t a.index b c.index m p (omega (arith, n.0), n.1) in
      later (Some a) c l (a ∷ c ∷ l) a.index
      (go (is_subquery c.kind) refl m q
      (λ y. last l c c.index (d + 1) y m (omega arith, end-behind t c.index) n.3) (last l a c.index (d + 1) k m q n.3))
    where
      go : (y : Bool) → is_subquery c.kind ≡ y → c.index < count t → Encloses a.index c.index
          → (is_subquery c.kind ≡ true → Last (Some c) l (c ∷ l) c.index) → Last (Some a) l (a ∷ l) a.index
          → Last (cond y (Some c) (Some a)) l (a ∷ c ∷ l) a.index
      go true e m q f g =
          let w = f e in
          record {
            it = w.it;
            found = w.found;
            on = Memᴰ.tail w.on;
            query = w.query;
            holds = at-below-then t a.index c.index w.it.index (omega (arith, w.holds.1, end-within t 0 0 c.index m)) q w.holds;
          }
      go false e m q f g =
          record {
            it = g.it;
            found = g.found;
            on = ⊎_elim Memᴰ.head (λ i. Memᴰ.tail (Memᴰ.tail i)) (Memᴰ.cases_cons g.on);
            query = g.query;
            holds = g.holds;
          }

  last_of : (l : List Rec) (best : Option Rec) (lo hi d : ℕ) (r : Rec) → hi ≤ count t → Nested t lo hi d l → is_subquery r.kind ≡ true → Memᴰ r l
      → Last best l l r.index
  unfolding deepest_or Nested
  last_of [] best lo hi d r h n k x4 = elim x4 [ ]
  last_of (c ∷ l) best lo hi d r h n k (Memᴰ.head e) =
      let y : is_subquery c.kind ≡ true = ap (λ (x : Rec). is_subquery x.kind) (sym e) ∙ k in
      starts best c l (c ∷ l) r.index y (ap (λ (x : Rec). x.index) e)
      (last l c c.index (d + 1) y (omega (arith, n.1)) (omega arith, end-behind t c.index) n.3)
  last_of (c ∷ l) best lo hi d r h n k (Memᴰ.tail m) =
      let w = last_of l (cond (is_subquery c.kind) (Some c) best) (c.index + 1) (stretch_end t c.index) (d + 1) r (end-within t 0 0 c.index (omega (arith, n.1))) n.3 k m in
      record { it = w.it; found = w.found; on = Memᴰ.tail w.on; query = w.query; holds = w.holds }

  module _ (o : ℕ) (h : 0 < count t) where
    root_is : (q : Rec) → deepest_or None is_subquery (path_at t o) ≡ Some q → q.index ≡ root_at t o
    unfolding root_at root_of
    root_is q e = rw e

    of-path : (r : Rec) → QueryOnPath t o r → Last None (path_at t o) (path_at t o) r.index
    of-path r w = last_of (path_at t o) None 0 (count t) (depth_at t 0) r (omega arith) (path-nested t o h) w.query w.on-path

    pub deepest-query : DeepestQuery t o (root_at t o)
    deepest-query =
        record {
          all_above = λ r w.
              let l = of-path r w in
              rw (← root_is l.it l.found) (at-below t r.index l.it.index l.holds.0 l.holds.1);
          one-of-them = λ r w. let l = of-path r w in (l.it, record { on-path = l.on; query = l.query }, root_is l.it l.found);
        }
