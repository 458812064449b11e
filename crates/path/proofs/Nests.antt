-- The path's nodes are nested stretches: each stands in the stretch of the one before it, one deeper.
--     path-nested    on every table that has a record
-- Assumes nothing.
use Prim.Native.Nat.{ℕ, zero, suc, ◌+◌, ◌-◌, ◌≤◌, ◌<◌}
use mathlib.Core.Path.{◌≡◌, refl}
use mathlib.Core.Bool.{Bool, true, false, cond}
use mathlib.Core.List.{List, [], ◌∷◌}
use mathlib.Core.Logic.{⊎_elim}
use native.Mathlib.Nat.{zero-add}
use native.Mathlib.Omega.{arith}
use Rattle.records.specs.declared.record.Rec.{Rec}
use Rattle.records.specs.Table.{count, depth_at, kind_at, record_at, run, from}
use Rattle.forest.specs.Forest.{level, kids, extent, stretch_end}
use Rattle.forest.specs.Descent.{path, path_of}
use Rattle.lent.proofs.Cases.{lt-or-le}
use Rattle.forest.proofs.Laws.{node-or-token, level-shallow, level-deep, level-token, level-node, extent-deep, from_cons}
use Rattle.records.specs.Ranges.{holds}
use Rattle.path.specs.Path.{path_at}

-- the first node stands from record lo on and before record hi, in depth d; the next in its stretch, one deeper; and so on
unfoldable pub Nested : List ℕ → ℕ → ℕ → ℕ → List Rec → Type 0
Nested t lo hi d [] = Unit
Nested t lo hi d (q ∷ l) = (lo ≤ q.index) × (q.index < hi) × (q.depth ≡ d) × Nested t (q.index + 1) (stretch_end t q.index) (d + 1) l

module _ (t : List ℕ) where
  wider : (lo hi lo' hi' d : ℕ) (l : List Rec) → lo' ≤ lo → hi ≤ hi' → Nested t lo hi d l → Nested t lo' hi' d l
  unfolding Nested
  wider lo hi lo' hi' d [] a b n = tt
  wider lo hi lo' hi' d (q ∷ l) a b n = (omega (arith, n.0), omega (arith, n.1), n.2, n.3)

  ends : (i d n : ℕ) → depth_at t i ≡ d + 1 → n ≡ count t - (i + 1) → stretch_end t i ≡ i + 1 + extent (d + 1) (run t 0 (i + 1) n)
  unfolding stretch_end from
  ends i d n q m = rw (q, m)

  module _ (takes : Rec → Bool) where
    nested : (n i d : ℕ) → n ≡ count t - i → Nested t i (i + extent d (run t 0 i n)) (d + 1) (path takes (level (d + 1) (run t 0 i n)))
    unfolding run level path Nested record_at
    nested zero i d e = tt
    nested (suc n) i d e =
        let r : Rec = record_at t 0 i in
        let rs : List Rec = run t 0 (i + 1) n in
        let m : n ≡ count t - (i + 1) = omega arith in
        let on : depth_at t i ≤ d → Nested t i (i + extent d (r ∷ rs)) (d + 1) (path takes (level (d + 1) (r ∷ rs))) =
        λ h. rw (level-shallow (d + 1) r rs (omega arith)) tt in
        let past : d < depth_at t i → Nested t i (i + extent d (r ∷ rs)) (d + 1) (path takes (level (d + 1) rs)) =
        λ h. rw (extent-deep d r rs h) (wider (i + 1) (i + 1 + extent d rs) i (i + suc (extent d rs)) (d + 1) (path takes (level (d + 1) rs)) (omega arith) (omega arith) (nested n (i + 1) d m)) in
        ⊎_elim
        (λ (h : d < depth_at t i).
        ⊎_elim
        (λ g. rw (level-deep (d + 1) r rs g) (past h))
        (λ (g : depth_at t i ≤ d + 1).
        ⊎_elim
        (λ k. rw (level-node (d + 1) r rs (omega arith) k) (go (takes r) h (omega arith) m (past h) (nested n (i + 1) (d + 1) m)))
        (λ k. rw (level-token (d + 1) r rs (omega arith) k) (past h))
        (node-or-token (kind_at t i)))
        (lt-or-le (d + 1) (depth_at t i)))
        on
        (lt-or-le d (depth_at t i))
      where
        go : (b : Bool) → d < depth_at t i → depth_at t i ≡ d + 1 → n ≡ count t - (i + 1)
            → Nested t i (i + extent d (record_at t 0 i ∷ run t 0 (i + 1) n)) (d + 1) (path takes (level (d + 1) (run t 0 (i + 1) n)))
            → Nested t (i + 1) (i + 1 + extent (d + 1) (run t 0 (i + 1) n)) (d + 1 + 1) (path takes (level (d + 1 + 1) (run t 0 (i + 1) n)))
            → Nested t i (i + extent d (record_at t 0 i ∷ run t 0 (i + 1) n)) (d + 1)
            (cond b (record_at t 0 i ∷ path takes (level (d + 1 + 1) (run t 0 (i + 1) n))) (path takes (level (d + 1) (run t 0 (i + 1) n))))
        go false h q m p z = p
        go true h q m p z =
            (omega arith, rw (extent-deep d (record_at t 0 i) (run t 0 (i + 1) n) h) (omega arith), q, rw (zero-add i, ends i d n q m) z)

-- on every table that has a record
pub path-nested : (t : List ℕ) (o : ℕ) → 0 < count t → Nested t 0 (count t) (depth_at t 0) (path_at t o)
unfolding Nested path_of kids record_at stretch_end from
path-nested t o h = rw (from_cons t 0 0 h) (omega arith, h, refl, nested t (holds o) (count t - 1) 1 (depth_at t 0) refl)
