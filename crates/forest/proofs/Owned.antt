-- The nodes of a table's tree are nodes of the table, under their own numbers, and its tokens are no nodes.
-- Assumes nothing.
use Prim.Native.Nat.{ℕ, zero, suc, ◌+◌, ◌-◌, ◌≤◌, ◌<◌}
use mathlib.Core.Path.{◌≡◌, refl}
use mathlib.Core.Bool.{true, false}
use mathlib.Core.List.{List}
use mathlib.Core.Logic.{⊎_elim}
use native.Mathlib.Omega.{arith}
use native.Mathlib.Nat.{zero-add}
use borrow.Author.Tests.{le-leb, lt-leb}
use Rattle.lent.proofs.Cases.{lt-or-le}
use Rattle.records.specs.Kinds.{is_node, last_node}
use Rattle.records.specs.Table.{count, kind_at, depth_at, record_at, run, from, records}
use Rattle.forest.specs.Forest.{Forest, nil, token, node, level, kids}
use Rattle.forest.specs.Sense.{tree_of}
use Rattle.forest.proofs.Laws.{node-or-token, level-shallow, level-deep, level-token, level-node, from_cons}

module _ (t : List ℕ) where
  unfoldable pub Own : Forest → Type 0
  Own nil = Unit
  Own (token r rest) = (is_node r.kind ≡ false) × Own rest
  Own (node r below rest) = ((is_node r.kind ≡ true) × (r.kind ≡ kind_at t r.index)) × Own below × Own rest

  level-own : (n i k : ℕ) → Own (level k (run t 0 i n))
  unfolding run level Own record_at
  level-own zero i k = tt
  level-own (suc n) i k =
      ⊎_elim
      (λ h. rw (level-shallow k (record_at t 0 i) (run t 0 (i + 1) n) h) tt)
      (λ (h : k ≤ depth_at t i).
      ⊎_elim
      (λ g. rw (level-deep k (record_at t 0 i) (run t 0 (i + 1) n) g) (level-own n (i + 1) k))
      (λ (g : depth_at t i ≤ k).
      ⊎_elim
      (λ l. rw (level-node k (record_at t 0 i) (run t 0 (i + 1) n) (omega arith) l, zero-add i) ((le-leb (kind_at t i) last_node l, refl), level-own n (i + 1) (k + 1), level-own n (i + 1) k))
      (λ l. rw (level-token k (record_at t 0 i) (run t 0 (i + 1) n) (omega arith) l) (lt-leb (kind_at t i) last_node l, level-own n (i + 1) k))
      (node-or-token (kind_at t i)))
      (lt-or-le k (depth_at t i)))
      (lt-or-le (depth_at t i) k)

  kids-own : 0 < count t → Own (kids (records 0 t))
  unfolding kids record_at
  kids-own h = rw (from_cons t 0 0 h) (unfold from in level-own (count t - 1) 1 (depth_at t 0 + 1))

  pub tree-own : 0 < count t → kind_at t 0 ≤ last_node → Own (tree_of t)
  unfolding Own record_at
  tree-own h k = ((le-leb (kind_at t 0) last_node k, refl), kids-own h, tt)
