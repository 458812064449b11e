-- A walk in a loop over the children of a stretch's first record: its invariant, and a law for each thing that a turn does.
-- `rest f` is what the walk will have answered when the siblings f are all that is left. It changes with what the walk has done so far,
-- and a turn's law asks how: what it was at a token or a node, with f after it, is what it now is at f.
--     walk_none, walk_start     a stretch with no record; before the first turn
--     walk_end                  after the last child
--     walk-token                after a token
--     walk-next                 after a record of whose stretch nothing is wanted, whether it is a token or a node
--     walk_here                 at a token, where the answer comes from it
--     walk-over                 after a node of whose stretch nothing is wanted: the search goes on right behind its record
--     walk-into                 at a node whose stretch is p, where the answer comes from inside it
--     walk_from                 before the first turn, where the walk is itself a turn of a descent
--     walk-at-node                   what is left at record i, where it is a node, with its children read from it on
--     walk-on                        after record i, by what is left behind it
-- Assumes nothing.
use mathlib.Core.Path.{◌≡◌, refl, sym, ap, ◌∙◌}
use mathlib.Core.Logic.{⊎_elim}
use mathlib.Core.List.{List}
use Prim.Native.Nat.{ℕ, ◌+◌, ◌≤◌, ◌<◌}
use Rattle.records.specs.Kinds.{last_node}
use Rattle.records.specs.Table.{count, kind_at, depth_at, record_at, from, records, part}
use Rattle.forest.specs.Forest.{Forest, nil, token, node, kids, stretch_end, children, Child}
use Rattle.forest.proofs.Laws.{node-or-token, records-tail, kids-tail, kids-none, kids-first, siblings-end, siblings-token, siblings-node, siblings-after}

-- at record i, which is a child or the count
pub record Walk {A : Type 0} (s : List ℕ) (base i : ℕ) (rest : Forest → A) («all» : A) : Type 0 where
  pub child : i < count s → depth_at s i ≡ depth_at s 0 + 1
  pub left : rest (children s base i) ≡ «all»

module _ {A : Type 0} (s : List ℕ) (base : ℕ) (rest : Forest → A) where
  pub walk_none : count s ≡ 0 → rest nil ≡ rest (kids (records base s))
  walk_none h = rw (kids-none s base h)

  pub walk_start : {i : ℕ} → 0 < count s → Child s 1 i → Walk s base i rest (rest (kids (records base s)))
  unfolding children
  walk_start h c = record { child = c.depth; left = ap rest (sym (c.same base) ∙ sym (kids-first s base (depth_at s 0) h refl)) }

  pub walk_from : {i : ℕ} {«all» : A} → rest (kids (records base s)) ≡ «all» → 0 < count s → Child s 1 i → Walk s base i rest «all»
  walk_from e h c = let w = walk_start h c in record { child = w.child; left = w.left ∙ e }

module _ {A : Type 0} {s : List ℕ} {base i : ℕ} {rest : Forest → A} {«all» : A} (w : Walk s base i rest «all») where
  pub walk_end : count s ≤ i → rest nil ≡ «all»
  unfolding children
  walk_end h = rw (siblings-end s base (depth_at s 0 + 1) i h) at w.left

  module _ (h : i < count s) where
    pub walk-token : {rest' : Forest → A} {r : ℕ} → last_node < kind_at s i → Child s (i + 1) r
        → ((f : Forest) → rest (token (record_at s base i) f) ≡ rest' f) → Walk s base r rest' «all»
    unfolding children
    walk-token g c e =
        record { child = c.depth; left = rw (← c.same base) (sym (e _) ∙ (rw (siblings-token s base (depth_at s 0 + 1) i h (w.child h) g) at w.left)) }

    pub walk-into : {p : List ℕ} → kind_at s i ≤ last_node → p ≡ part s i (stretch_end s i)
        → rest (node (record_at s base i) (kids (records (base + i) p)) (children s base (stretch_end s i))) ≡ «all»
    unfolding children
    walk-into g q = rw q (rw (siblings-node s base (depth_at s 0 + 1) i h _ refl (w.child h) g) at w.left)

    pub walk-over : {rest' : Forest → A} {r : ℕ} → kind_at s i ≤ last_node → Child s (i + 1) r
        → ((b f : Forest) → rest (node (record_at s base i) b f) ≡ rest' f) → Walk s base r rest' «all»
    unfolding children
    walk-over g c e =
        record { child = c.depth; left = rw (← c.same base, ← siblings-after s base (depth_at s 0 + 1) i h (w.child h)) (sym (e _ _) ∙ walk-into g refl) }

    pub walk_here : last_node < kind_at s i → rest (token (record_at s base i) (children s base (i + 1))) ≡ «all»
    unfolding children
    walk_here g = rw (siblings-token s base (depth_at s 0 + 1) i h (w.child h) g) at w.left

    pub walk-next : {rest' : Forest → A} {r : ℕ} → Child s (i + 1) r
        → (last_node < kind_at s i → (f : Forest) → rest (token (record_at s base i) f) ≡ rest' f)
        → (kind_at s i ≤ last_node → (b f : Forest) → rest (node (record_at s base i) b f) ≡ rest' f) → Walk s base r rest' «all»
    walk-next c e n = ⊎_elim (λ g. walk-over g c (n g)) (λ g. walk-token g c (e g)) (node-or-token (kind_at s i))

    pub walk-at-node : kind_at s i ≤ last_node → rest (node (record_at s base i) (kids (from s base i)) (children s base (i + 1))) ≡ «all»
    unfolding children
    walk-at-node g =
        rw (← records-tail s base i, kids-tail s base (depth_at s i) i h refl, ← siblings-after s base (depth_at s 0 + 1) i h (w.child h)) (walk-into g refl)

    pub walk-on : {rest' : Forest → A} {r : ℕ} → rest' (children s base (i + 1)) ≡ «all» → Child s (i + 1) r → Walk s base r rest' «all»
    walk-on e c = record { child = c.depth; left = rw (← c.same base) e }
