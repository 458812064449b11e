-- In the tree that a table's records stand for, what is below a node is what stands inside its record.
--     inside-rooted   below every record: a law of any table, for walks that are handed a node's record alone
-- Assumes nothing.
use Prim.Native.Nat.{ℕ, zero, suc, ◌+◌, ◌-◌, ◌≤◌, ◌<◌}
use mathlib.Core.Path.{◌≡◌, refl, sym, ◌∙◌}
use mathlib.Core.List.{List}
use mathlib.Core.Logic.{⊎_elim}
use native.Mathlib.Omega.{arith}
use native.Mathlib.Nat.{zero-add}
use Rattle.records.specs.Table.{count, kind_at, depth_at, record_at, run, from}
use Rattle.forest.specs.Forest.{Forest, nil, token, node, level, kids, inside}
use Rattle.lent.proofs.Cases.{lt-or-le}
use Rattle.forest.proofs.Laws.{node-or-token, level-shallow, level-deep, level-token, level-node, from_cons, from_end}

module _ (t : List ℕ) where
  -- of every node: its children are those of its record
  unfoldable pub Rooted : Forest → Type 0
  Rooted nil = Unit
  Rooted (token r rest) = Rooted rest
  Rooted (node r below rest) = (below ≡ inside t r.index) × Rooted below × Rooted rest

  inside-level : (i n : ℕ) → i < count t → n ≡ count t - (i + 1) → inside t i ≡ level (depth_at t i + 1) (run t 0 (i + 1) n)
  unfolding kids record_at from
  inside-level i n h e = rw (from_cons t 0 i h, e)

  level-rooted : (n i k : ℕ) → n ≡ count t - i → Rooted (level k (run t 0 i n))
  unfolding run level Rooted record_at
  level-rooted zero i k e = tt
  level-rooted (suc n) i k e =
      let m : n ≡ count t - (i + 1) = omega arith in
      ⊎_elim
      (λ h. rw (level-shallow k (record_at t 0 i) (run t 0 (i + 1) n) h) tt)
      (λ (h : k ≤ depth_at t i).
      ⊎_elim
      (λ g. rw (level-deep k (record_at t 0 i) (run t 0 (i + 1) n) g) (level-rooted n (i + 1) k m))
      (λ (g : depth_at t i ≤ k).
      let d : depth_at t i ≡ k = omega arith in
      ⊎_elim
      (λ l.
      rw (level-node k (record_at t 0 i) (run t 0 (i + 1) n) d l, zero-add i)
      (sym (inside-level i n (omega arith) m ∙ rw d), level-rooted n (i + 1) (k + 1) m, level-rooted n (i + 1) k m))
      (λ l. rw (level-token k (record_at t 0 i) (run t 0 (i + 1) n) d l) (level-rooted n (i + 1) k m))
      (node-or-token (kind_at t i)))
      (lt-or-le k (depth_at t i)))
      (lt-or-le (depth_at t i) k)

  -- THE LAW
  pub inside-rooted : (i : ℕ) → Rooted (inside t i)
  inside-rooted i =
      ⊎_elim
      (λ h. rw (inside-level i (count t - (i + 1)) h refl) (level-rooted (count t - (i + 1)) (i + 1) (depth_at t i + 1) refl))
      (λ h. rw (from_end t 0 i h) (unfold kids Rooted in tt))
      (lt-or-le i (count t))
