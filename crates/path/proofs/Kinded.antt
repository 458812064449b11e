-- The path's nodes are records of the table.
--     path-kinds    each has the kind of the record with its number
-- Assumes nothing.
use Prim.Native.Nat.{ℕ, zero, suc, ◌+◌}
use mathlib.Core.Path.{◌≡◌, sym, ap}
use mathlib.Core.Bool.{Bool, true, false, cond}
use mathlib.Core.List.{List, [], ◌∷◌}
use mathlib.Core.Logic.{⊎_elim}
use native.Mathlib.Nat.{zero-add}
use native.Mathlib.Omega.{arith}
use Rattle.records.specs.declared.record.Rec.{Rec}
use Rattle.records.specs.Table.{kind_at, record_at, run, from}
use Rattle.forest.specs.Forest.{level, kids}
use Rattle.forest.specs.Descent.{path, path_of}
use Rattle.records.specs.Ranges.{holds}
use Rattle.lent.proofs.Cases.{lt-or-le}
use Rattle.forest.proofs.Laws.{node-or-token, level-shallow, level-deep, level-token, level-node}
use Rattle.path.specs.Path.{path_at}

-- each has the kind of the record with its number
unfoldable pub Kinded : List ℕ → List Rec → Type 0
Kinded t [] = Unit
Kinded t (r ∷ rs) = (r.kind ≡ kind_at t r.index) × Kinded t rs

module _ (t : List ℕ) where
  kinded-run : (i n : ℕ) → Kinded t (run t 0 i n)
  unfolding run record_at Kinded
  kinded-run i zero = tt
  kinded-run i (suc n) = (ap (kind_at t) (sym (zero-add i)), kinded-run (i + 1) n)

  either : (b : Bool) (xs ys : List Rec) → Kinded t xs → Kinded t ys → Kinded t (cond b xs ys)
  either true xs ys p q = p
  either false xs ys p q = q

  module _ (takes : Rec → Bool) where
    kinded-level : (rs : List Rec) (k : ℕ) → Kinded t rs → Kinded t (path takes (level k rs))
    unfolding path Kinded
    kinded-level [] k e = unfold level in tt
    kinded-level (r ∷ rs) k e =
        ⊎_elim
        (λ h. rw (level-shallow k r rs h) tt)
        (λ h.
        ⊎_elim
        (λ g. rw (level-deep k r rs g) (kinded-level rs k e.1))
        (λ g.
        let d : r.depth ≡ k = omega arith in
        ⊎_elim
        (λ n. rw (level-node k r rs d n) (either (takes r) _ _ (e.0, kinded-level rs (k + 1) e.1) (kinded-level rs k e.1)))
        (λ n. rw (level-token k r rs d n) (kinded-level rs k e.1))
        (node-or-token r.kind))
        (lt-or-le k r.depth))
        (lt-or-le r.depth k)

    kinded-path : (rs : List Rec) → Kinded t rs → Kinded t (path_of takes rs)
    unfolding path_of kids Kinded
    kinded-path [] e = tt
    kinded-path (r ∷ rs) e = (e.0, kinded-level rs (r.depth + 1) e.1)

pub path-kinds : (t : List ℕ) (o : ℕ) → Kinded t (path_at t o)
unfolding from
path-kinds t o = kinded-path t (holds o) _ (kinded-run t 0 _)
