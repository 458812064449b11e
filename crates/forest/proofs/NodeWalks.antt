-- A walk from child node to child node: what a step finds, and its turns.
--     seeking-..             the search for the next child node, a record at a time
--     NodeWalk, node-..      a walk over the child nodes, for an answer to which a token adds nothing
-- Assumes nothing.
use mathlib.Core.Path.{◌≡◌, refl, sym, ap, ◌∙◌}
use mathlib.Core.List.{List}
use Prim.Native.Nat.{ℕ, ◌+◌, ◌≤◌, ◌<◌}
use native.Mathlib.Omega.{arith}
use Rattle.records.specs.declared.record.Rec.{Rec}
use Rattle.records.specs.Kinds.{last_node}
use Rattle.records.specs.Table.{count, kind_at, depth_at, record_at, records, part}
use Rattle.forest.specs.Forest.{Forest, token, node, kids, stretch_end, children}
use Rattle.forest.specs.inner.Nodes.{PastTokens, none_passed, token-passed, NodeChild}
use Rattle.forest.proofs.Laws.{kids-first, siblings-end, siblings-stop, siblings-skip, siblings-token, siblings-after}
use Rattle.forest.proofs.Walks.{Walk, walk-into}

-- one token more is passed
one_more : (r : Rec) {f : Forest} (g : Forest) → PastTokens f (token r g) → PastTokens f g
one_more r g w = go w refl
  where
    go : {f h : Forest} → PastTokens f h → h ≡ token r g → PastTokens f g
    go (none_passed f) e = rw e (token-passed r g g (none_passed g))
    go (token-passed x f h p) e = token-passed x f g (go p e)

-- ---- the search

pub record Seeking (t : List ℕ) (j i : ℕ) : Type 0 where
  pub on : j ≤ i
  pub within : i ≤ count t
  pub passed : (base : ℕ) → PastTokens (children t base j) (children t base i)

pub seeking-start : (t : List ℕ) (j : ℕ) → j ≤ count t → Seeking t j j
seeking-start t j h = record { on = omega arith; within = h; passed = λ base. none_passed (children t base j) }

module _ {t : List ℕ} {j i : ℕ} (w : Seeking t j i) where
  pub seeking-none : count t ≤ i → NodeChild t j i
  seeking-none h = record { on = w.on; within = w.within; depth = λ g. absurd (omega arith); node = λ g. absurd (omega arith); passed = w.passed }

  module _ (h : i < count t) where
    pub seeking-here : depth_at t i ≡ depth_at t 0 + 1 → kind_at t i ≤ last_node → NodeChild t j i
    seeking-here d k = record { on = w.on; within = w.within; depth = λ g. d; node = λ g. k; passed = w.passed }

    pub seeking-deep : depth_at t 0 + 1 < depth_at t i → Seeking t j (i + 1)
    unfolding children
    seeking-deep d =
        record { on = omega (arith, w.on); within = omega arith; passed = λ base. rw (siblings-skip t base (depth_at t 0 + 1) i h d) at (w.passed base) }

    pub seeking-token : depth_at t i ≡ depth_at t 0 + 1 → last_node < kind_at t i → Seeking t j (i + 1)
    unfolding children
    seeking-token d k =
        record {
          on = omega (arith, w.on);
          within = omega arith;
          passed = λ base. one_more (record_at t base i) _ (rw (siblings-token t base (depth_at t 0 + 1) i h d k) at (w.passed base));
        }

    pub seeking-stop : depth_at t i < depth_at t 0 + 1 → NodeChild t j (count t)
    unfolding children
    seeking-stop d =
        record {
          on = omega (arith, w.on);
          within = omega arith;
          depth = λ g. absurd (omega arith);
          node = λ g. absurd (omega arith);
          passed = λ base. rw (siblings-end t base (depth_at t 0 + 1) (count t) (omega arith)) (rw (siblings-stop t base (depth_at t 0 + 1) i h d) at (w.passed base));
        }

-- ---- the walk

-- at record i, which is a child node or the count
pub record NodeWalk {A : Type 0} (s : List ℕ) (base i : ℕ) (rest : Forest → A) («all» : A) : Type 0 where
  pub walk : Walk s base i rest «all»
  pub node : i < count s → kind_at s i ≤ last_node

module _ {A : Type 0} (rest : Forest → A) (pass : (r : Rec) (f : Forest) → rest (token r f) ≡ rest f) where
  past_same : {f g : Forest} → PastTokens f g → rest f ≡ rest g
  past_same (none_passed f) = refl
  past_same (token-passed r f g p) = pass r f ∙ past_same p

  node_at : (s : List ℕ) (base j : ℕ) {i : ℕ} {«all» : A} → NodeChild s j i → rest (children s base j) ≡ «all» → NodeWalk s base i rest «all»
  node_at s base j c e = record { walk = record { child = c.depth; left = sym (past_same (c.passed base)) ∙ e }; node = c.node }

  pub node-start : (s : List ℕ) (base : ℕ) {i : ℕ} → 0 < count s → NodeChild s 1 i → NodeWalk s base i rest (rest (kids (records base s)))
  unfolding children
  node-start s base h c = node_at s base 1 c (ap rest (sym (kids-first s base (depth_at s 0) h refl)))

  -- after the node at i, whose stretch is p
  pub node-on : {s : List ℕ} {base i : ℕ} {before : Forest → A} {«all» : A} → NodeWalk s base i before «all» → i < count s → {p : List ℕ} {j r : ℕ}
      → p ≡ part s i (stretch_end s i) → j ≡ stretch_end s i → NodeChild s j r
      → ((f : Forest) → before (node (record_at s base i) (kids (records (base + i) p)) f) ≡ rest f) → NodeWalk s base r rest «all»
  node-on {s} {base} {i} w h {p} {j} q e c turn =
      node_at s base j c (rw e (sym (turn (children s base (stretch_end s i))) ∙ walk-into w.walk h (w.node h) q))

  -- after a node of whose stretch nothing is wanted: the search goes on right behind its record
  pub node_over : {s : List ℕ} {base i : ℕ} {before : Forest → A} {«all» : A} → NodeWalk s base i before «all» → i < count s → {r : ℕ} → NodeChild s (i + 1) r
      → ((b f : Forest) → before (node (record_at s base i) b f) ≡ rest f) → NodeWalk s base r rest «all»
  unfolding children
  node_over {s} {base} {i} w h c turn =
      node_at s base (i + 1) c
      (rw (← siblings-after s base (depth_at s 0 + 1) i h (w.walk.child h)) (sym (turn _ (children s base (stretch_end s i))) ∙ walk-into w.walk h (w.node h) refl))
