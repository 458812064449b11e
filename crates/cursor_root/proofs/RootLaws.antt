-- The scope at the cursor: its root is a node of the table, so refusal 8 is never given there.
--     root-node                           the root is a node of the table
--     root-within, root-shallow           so it stands in the table, and not too deep
-- Assumes nothing.
use Prim.Native.Nat.{ℕ, zero, suc, ◌+◌, ◌-◌, ◌≤◌, ◌<◌}
use mathlib.Core.Path.{◌≡◌, refl, sym, ◌∙◌}
use mathlib.Core.Bool.{Bool, true, false, cond}
use mathlib.Core.List.{List, [], ◌∷◌}
use mathlib.Core.Logic.{⊎_elim}
use native.Mathlib.Omega.{arith}
use native.Mathlib.Nat.{zero-add}
use borrow.Author.Tests.{lt-ltb, le-leb}
use Rattle.lent.specs.Verdicts.{Verdict}
use Rattle.std.specs.Prelude.{Option, None, Some, Ok}
use Rattle.records.specs.declared.record.Rec.{Rec}
use Rattle.records.specs.Kinds.{last_node}
use Rattle.records.specs.Table.{count, kind_at, depth_at, record_at, run, from, records}
use Rattle.forest.specs.Forest.{Forest, nil, token, node, level, kids}
use Rattle.forest.specs.Descent.{path, path_of}
use Rattle.conditions.specs.Conditions.{most_records, most_depth, no_root}
use Rattle.table.specs.Rules.{verdict}
use Rattle.forest.specs.Sense.{tree_of}
use Rattle.lent.proofs.Cases.{lt-or-le}
use Rattle.forest.proofs.Laws.{node-or-token, level-shallow, level-deep, level-token, level-node, from_cons}
use Rattle.table.proofs.Checks.{root-known, root-admitted}
use Rattle.forest.proofs.Sense.{admitted-tidy}
use Rattle.records.specs.Ranges.{holds}
use Rattle.statement.specs.Statement.{itself, is_statement, or_else, first_find, enclosing_at}
use Rattle.path.specs.Path.{path_at, deepest_or, deepest, is_subquery}
use Rattle.cursor_root.specs.Root.{root_of, root_at}

-- ---- every node of the tree is a node of the table

module _ (t : List ℕ) where
  abbrev IsNode : ℕ → Type 0
  IsNode i = no_root t i ≡ false

  is-node : (i : ℕ) → i < count t → kind_at t i ≤ last_node → IsNode i
  is-node i h k = rw (lt-ltb i (count t) h, le-leb (kind_at t i) last_node k)

  Nodes : Forest → Type 0
  Nodes nil = Unit
  Nodes (token r rest) = Nodes rest
  Nodes (node r below rest) = IsNode r.index × Nodes below × Nodes rest

  level-nodes : (n i k : ℕ) → n ≡ count t - i → Nodes (level k (run t 0 i n))
  unfolding run level Nodes record_at
  level-nodes zero i k e = tt
  level-nodes (suc n) i k e =
      let m : n ≡ count t - (i + 1) = omega arith in
      ⊎_elim
      (λ h. rw (level-shallow k (record_at t 0 i) (run t 0 (i + 1) n) h) tt)
      (λ (h : k ≤ depth_at t i).
      ⊎_elim
      (λ g. rw (level-deep k (record_at t 0 i) (run t 0 (i + 1) n) g) (level-nodes n (i + 1) k m))
      (λ (g : depth_at t i ≤ k).
      ⊎_elim
      (λ l. rw (level-node k (record_at t 0 i) (run t 0 (i + 1) n) (omega arith) l, zero-add i) (is-node i (omega arith) l, level-nodes n (i + 1) (k + 1) m, level-nodes n (i + 1) k m))
      (λ l. rw (level-token k (record_at t 0 i) (run t 0 (i + 1) n) (omega arith) l) (level-nodes n (i + 1) k m))
      (node-or-token (kind_at t i)))
      (lt-or-le k (depth_at t i)))
      (lt-or-le (depth_at t i) k)

  kids-nodes : 0 < count t → Nodes (kids (records 0 t))
  unfolding kids record_at
  kids-nodes h = rw (from_cons t 0 0 h) (unfold from in level-nodes (count t - 1) 1 (depth_at t 0 + 1) refl)

  -- ---- so is every node on the path, and the enclosing statement

  OnPath : List Rec → Type 0
  OnPath [] = Unit
  OnPath (r ∷ rs) = IsNode r.index × OnPath rs

  path-nodes : (takes : Rec → Bool) (f : Forest) → Nodes f → OnPath (path takes f)
  unfolding path Nodes OnPath
  path-nodes takes nil w = tt
  path-nodes takes (token r rest) w = path-nodes takes rest w
  path-nodes takes (node r below rest) w = go (takes r) (path-nodes takes below w.1) (path-nodes takes rest w.2)
    where
      go : (b : Bool) → OnPath (path takes below) → OnPath (path takes rest) → OnPath (cond b (r ∷ path takes below) (path takes rest))
      go true x y = (w.0, x)
      go false x y = y

  Picked : Option Rec → Type 0
  Picked None = Unit
  Picked (Some r) = IsNode r.index

  picked : (best : Option Rec) (test : ℕ → Bool) (l : List Rec) → Picked best → OnPath l → Picked (deepest_or best test l)
  unfolding deepest_or OnPath Picked
  picked best test [] b w = b
  picked best test (r ∷ l) b w = picked (cond (test r.kind) (Some r) best) test l (go (test r.kind)) w.1
    where
      go : (c : Bool) → Picked (cond c (Some r) best)
      go true = w.0
      go false = b

  Found : Option ℕ → Type 0
  Found None = Unit
  Found (Some n) = IsNode n

  found-else : (a b : Option ℕ) → Found a → Found b → Found (or_else a b)
  unfolding or_else Found
  found-else None b x y = y
  found-else (Some n) b x y = x

  found-itself : (k i : ℕ) → IsNode i → Found (itself k i)
  unfolding Found
  found-itself k i w = go (is_statement k)
    where
      go : (b : Bool) → Found (cond b (Some i) None)
      go true = w
      go false = tt

  found-held : (b : Bool) (e : Option ℕ) → Found e → Found (cond b e None)
  unfolding Found
  found-held true e x = x
  found-held false e x = tt

  found : (o : ℕ) (f : Forest) → Nodes f → Found (first_find o f)
  unfolding first_find Nodes Found
  found o nil w = tt
  found o (token r rest) w = found o rest w
  found o (node r below rest) w =
      found-else _ (first_find o rest)
      (found-held (holds o r) _ (found-else (first_find o below) (itself r.kind r.index) (found o below w.1) (found-itself r.kind r.index w.0)))
      (found o rest w.2)

  -- ---- and so the root

  root-from : (b : Option Rec) (e : Option ℕ) → IsNode 0 → Picked b → Found e → IsNode (root_of b e)
  unfolding root_of Picked Found
  root-from None None z p f = z
  root-from None (Some n) z p f = f
  root-from (Some r) e z p f = p

  on-path : (o : ℕ) → 0 < count t → IsNode 0 → OnPath (path_at t o)
  unfolding path_of OnPath record_at
  on-path o h z = rw (from_cons t 0 0 h) (z, rw (← from_cons t 0 0 h) (path-nodes _ (kids (records 0 t)) (kids-nodes h)))

  in_tree : (o : ℕ) → 0 < count t → IsNode 0 → Found (enclosing_at t o)
  unfolding enclosing_at
  in_tree o h z = found o (tree_of t) (unfold Nodes record_at in (z, kids-nodes h, tt))

  pub root-node : (n : ℕ) → verdict t n 0 ≡ Ok tt → (o : ℕ) → no_root t (root_at t o) ≡ false
  unfolding root_at
  root-node n ok o =
      let w = admitted-tidy t n 0 ok in
      let top : IsNode 0 = is-node 0 w.some w.top.0 in
      root-from (deepest is_subquery (path_at t o)) (enclosing_at t o) top
      (picked None is_subquery (path_at t o) (unfold Picked in tt) (on-path o w.some top)) (in_tree o w.some top)

-- ---- so it stands in the table, which has few records

pub root-within : (t : List ℕ) (n o : ℕ) {v : Verdict} {i : ℕ} → v ≡ verdict t n 0 → v ≡ Ok tt → i ≡ root_at t o → (i < count t) × (count t ≤ most_records)
root-within t n o e a q =
    let k = root-known t n (root_at t o) (root-admitted t n (root_at t o) (sym a ∙ e) (root-node t n (sym e ∙ a) o)) in
    rw q (k.1, k.0)

-- and no deeper than a record may be
pub root-shallow : (t : List ℕ) (n o : ℕ) {v : Verdict} {i : ℕ} → v ≡ verdict t n 0 → v ≡ Ok tt → i ≡ root_at t o
    → (i < count t) × (count t ≤ most_records) × (depth_at t i ≤ most_depth)
root-shallow t n o {v} {i} e a q =
    let w = root-within t n o e a q in
    (w.0, w.1, (admitted-tidy t n 0 (sym e ∙ a)).depths i w.0)
