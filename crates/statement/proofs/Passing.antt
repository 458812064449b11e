-- The search in one pass: it finds what the search among children finds.
--     Passing, pass-start, -on, -over, -past, -end    the loop
-- Assumes nothing.
use Prim.Native.Nat.{ℕ, zero, suc, ◌+◌, ◌-◌, ◌≤◌, ◌<◌}
use mathlib.Core.Path.{◌≡◌, refl, sym, ap, ◌∙◌}
use mathlib.Core.Logic.{◌⊎◌, ⊎_elim}
use mathlib.Core.Bool.{Bool, true, false, cond, ◌&&◌}
use mathlib.Core.List.{List, [], ◌∷◌}
use native.Mathlib.Numerals.{add-one}
use native.Mathlib.Nat.{zero-add}
use native.Mathlib.Omega.{arith}
use borrow.Author.Tests.{lt-ltb, le-ltb, le-leb, lt-leb}
use Rattle.std.specs.Prelude.{Option, Some, None}
use Rattle.lent.proofs.Cases.{lt-or-le}
use Rattle.records.specs.declared.record.Rec.{Rec}
use Rattle.records.specs.Kinds.{is_node, last_node}
use Rattle.records.specs.Ranges.{spans, holds}
use Rattle.records.specs.Table.{count, kind_at, depth_at, start_at, end_at, record_at, from, records}
use Rattle.forest.specs.Forest.{Forest, nil, token, node, level, kids, Reached}
use Rattle.forest.specs.inner.Scan.{fold}
use Rattle.forest.proofs.Laws.{node-or-token, level-shallow, level-deep, level-token, level-node, from_cons}
use Rattle.forest.proofs.Scans.{sweep, Sweep, sweep-start, sweep-end, sweep-stop, sweep-token, sweep-into, sweep-past, sweep-far}
use Rattle.statement.specs.Statement.{is_statement, itself, or_else, first_find}
use Rattle.statement.specs.inner.Search.{Sofar, met, passing}

-- ---- the tree is as deep as its records say

-- the nodes among siblings are of depth k, and those below them one deeper
unfoldable AtDepth : ℕ → Forest → Type 0
AtDepth k nil = Unit
AtDepth k (token r rest) = AtDepth k rest
AtDepth k (node r below rest) = (r.depth ≡ k) × AtDepth (k + 1) below × AtDepth k rest

at-depth : (k : ℕ) (rs : List Rec) → AtDepth k (level k rs)
unfolding AtDepth level
at-depth k [] = tt
at-depth k (r ∷ rs) =
    ⊎_elim
    (λ h. rw (level-shallow k r rs h) tt)
    (λ h.
    ⊎_elim
    (λ g. rw (level-deep k r rs g) (at-depth k rs))
    (λ g.
    let d : r.depth ≡ k = omega arith in
    ⊎_elim
    (λ n. rw (level-node k r rs d n) (d, at-depth (k + 1) rs, at-depth k rs))
    (λ n. rw (level-token k r rs d n) (at-depth k rs))
    (node-or-token r.kind))
    (lt-or-le k r.depth))
    (lt-or-le r.depth k)

-- ---- once the statement is past, nothing changes

module _ (o : ℕ) where
  fold-past : (k : ℕ) (f : Forest) (s : Sofar) → AtDepth k f → k < s.floor → fold (passing o) s f ≡ s
  unfolding fold passing AtDepth
  fold-past k nil s a h = refl
  fold-past k (token r rest) s a h = fold-past k rest s a h
  fold-past k (node r below rest) s a h =
      let g : r.depth < s.floor = omega (arith, a.0) in
      rw (lt-leb s.floor r.depth g) (fold-past k rest s a.2 h)

  sweep-past-all : (k : ℕ) (rs : List Rec) (m : ℕ) (s : Sofar) → m < s.floor → sweep (passing o) k m s rs ≡ s
  unfolding sweep passing
  sweep-past-all k [] m s h = refl
  sweep-past-all k (r ∷ rs) m s h =
      ⊎_elim
      (λ d. rw (lt-ltb r.depth k d))
      (λ d.
      ⊎_elim
      (λ g. rw (le-ltb r.depth k d, lt-ltb m r.depth g) (sweep-past-all k rs m s h))
      (λ g.
      let b : r.depth < s.floor = omega arith in
      rw (le-ltb r.depth k d, le-ltb m r.depth g, lt-leb s.floor r.depth b)
      (go (is_node r.kind) (sweep-past-all k rs r.depth s b)))
      (lt-or-le m r.depth))
      (lt-or-le r.depth k)
    where
      go : (b : Bool) → sweep (passing o) k r.depth s rs ≡ s → cond b (sweep (passing o) k r.depth s rs) (sweep (passing o) k r.depth s rs) ≡ s
      go true e = e
      go false e = e

  -- ---- what the pass makes of siblings: nothing, where the search finds none; else the find, and it is past them

  record Finds (k : ℕ) (s s' : Sofar) (n : ℕ) : Type 0 where
    best : s'.best ≡ Some n
    past : k < s'.floor

  unfoldable Made : ℕ → Sofar → Sofar → Option ℕ → Type 0
  Made k s s' None = s' ≡ s
  Made k s s' (Some n) = Finds k s s' n

  abbrev here : Sofar → Rec → Sofar
  here s r = cond (is_statement r.kind) (record { best = Some r.index; floor = r.depth + 1 }) s

  made : (k : ℕ) (f : Forest) (s : Sofar) → AtDepth k f → s.floor ≤ k → Made k s (fold (passing o) s f) (first_find o f)
  unfolding fold passing AtDepth Made first_find or_else
  made k nil s a h = refl
  made k (token r rest) s a h = made k rest s a h
  made k (node r below rest) s a h =
      rw (le-leb s.floor r.depth (omega (arith, a.0)))
      (go (holds o r) (made (k + 1) below (here s r) a.1 (shallow (is_statement r.kind) refl)) (made k rest s a.2 h))
    where
      shallow : (b : Bool) → is_statement r.kind ≡ b → (cond b (record { best = Some r.index; floor = r.depth + 1 }) s).floor ≤ k + 1
      shallow true e = omega (arith, a.0)
      shallow false e = omega arith

      -- with e found in it
      after : (e : Option ℕ) (s' : Sofar) → Made (k + 1) (here s r) s' e → Made k s (fold (passing o) s rest) (first_find o rest)
          → Made k s (fold (passing o) s' rest) (or_else (or_else e (itself r.kind r.index)) (first_find o rest))
      after (Some n) s' i j =
          let h : k < s'.floor = omega (arith, i.past) in
          rw (fold-past k rest s' a.2 h) (record { best = i.best; past = h })
      after None s' i j = rw i (itself-or (is_statement r.kind) refl)
        where
          itself-or : (b : Bool) → is_statement r.kind ≡ b → Made k s (fold (passing o) (cond b (record { best = Some r.index; floor = r.depth + 1 }) s) rest)
              (or_else (or_else None (cond b (Some r.index) None)) (first_find o rest))
          itself-or true e =
              let h : k < r.depth + 1 = omega (arith, a.0) in
              rw (fold-past k rest (record { best = Some r.index; floor = r.depth + 1 }) a.2 h) (record { best = refl; past = h })
          itself-or false e = j

      go : (b : Bool) → Made (k + 1) (here s r) (fold (passing o) (here s r) below) (first_find o below) → Made k s (fold (passing o) s rest) (first_find o rest)
          → Made k s (fold (passing o) (cond b (fold (passing o) (cond (b && is_statement r.kind) (record { best = Some r.index; floor = r.depth + 1 }) s) below) (cond (b && is_statement r.kind) (record { best = Some r.index; floor = r.depth + 1 }) s)) rest)
          (or_else (cond b (or_else (first_find o below) (itself r.kind r.index)) None) (first_find o rest))
      go true i j = after (first_find o below) (fold (passing o) (here s r) below) i j
      go false i j = j

  -- THE LAW
  pass-finds : (k : ℕ) (rs : List Rec) (s : Sofar) → s.floor ≤ k → (fold (passing o) s (level k rs)).best ≡ or_else (first_find o (level k rs)) s.best
  pass-finds k rs s h = go (first_find o (level k rs)) (made k (level k rs) s (at-depth k rs) h)
    where
      go : (e : Option ℕ) → Made k s (fold (passing o) s (level k rs)) e → (fold (passing o) s (level k rs)).best ≡ or_else e s.best
      go None m = unfold Made or_else in ap (λ (x : Sofar). x.best) m
      go (Some n) m = unfold Made or_else in m.best

-- ---- record 0 itself

by-itself : (k : ℕ) {best : Option ℕ} → ((is_statement k ≡ true) × (best ≡ Some 0)) ⊎ ((is_statement k ≡ false) × (best ≡ None)) → best ≡ itself k 0
by-itself k q = ⊎_elim (λ x. rw (x.0, x.1)) (λ x. rw (x.0, x.1)) q

-- ---- the loop at record i, where k is the depth of record 0's children

abbrev sofar : Option ℕ → ℕ → Sofar
sofar best floor = record { best = best; floor = floor }

pub record Passing (o : ℕ) (t : List ℕ) (i : ℕ) (best : Option ℕ) (floor : ℕ) : Type 0 where
  pub some : 0 < count t
  pub first : Option ℕ
  pub root : first ≡ itself (kind_at t 0) 0
  pub reach : ℕ
  pub left : Sweep (passing o) t 0 (depth_at t 0 + 1) reach i (sofar best floor) (fold (passing o) (sofar first (depth_at t 0 + 1)) (kids (records 0 t)))
  pub near : i < count t → depth_at t i ≤ reach
  pub below : depth_at t 0 < floor

pub pass-start : (o : ℕ) (t : List ℕ) {best : Option ℕ} {k i : ℕ} → 0 < count t → ((is_statement (kind_at t 0) ≡ true) × (best ≡ Some 0)) ⊎ ((is_statement (kind_at t 0) ≡ false) × (best ≡ None)) → k ≡ depth_at t 0 + 1
    → Reached t k 1 i → Passing o t i best k
pass-start o t {best} h b e v =
    rw e
    (record {
      some = h;
      first = best;
      root = by-itself (kind_at t 0) b;
      reach = depth_at t 0 + 1;
      left = sweep-far (sweep-start (passing o) t 0 _ h refl) (omega arith) (rw e at v);
      near = λ g. rw e at (v.depth g);
      below = omega arith;
    })

module _ {o : ℕ} {t : List ℕ} {i : ℕ} {best : Option ℕ} {floor : ℕ} (w : Passing o t i best floor) where
  whole : sofar best floor ≡ fold (passing o) (sofar w.first (depth_at t 0 + 1)) (kids (records 0 t)) → best ≡ or_else (first_find o (kids (records 0 t))) (itself (kind_at t 0) 0)
  unfolding kids record_at
  whole e =
      ap (λ (s : Sofar). s.best) e
      ∙ rw (from_cons t 0 0 w.some, ← w.root) (pass-finds o (depth_at t 0 + 1) (from t 0 1) (sofar w.first (depth_at t 0 + 1)) (omega arith))

  pub pass-end : count t ≤ i → best ≡ or_else (first_find o (kids (records 0 t))) (itself (kind_at t 0) 0)
  pass-end h = whole (sweep-end w.left h)

  module _ (h : i < count t) where
    -- past the statement
    pub pass-past : depth_at t i < floor → best ≡ or_else (first_find o (kids (records 0 t))) (itself (kind_at t 0) 0)
    unfolding passing record_at
    pass-past d =
        ⊎_elim
        (λ a. whole (sweep-stop w.left h a))
        (λ a.
        ⊎_elim
        (λ n. whole (sym (sweep-past-all o _ _ _ _ d) ∙ (sweep-past w.left h a (w.near h) n (rw (lt-leb floor (depth_at t i) d)) refl (rw (lt-leb floor (depth_at t i) d))).left))
        (λ n. whole (sym (sweep-past-all o _ _ _ _ d) ∙ (sweep-token w.left h a (w.near h) n refl refl).left))
        (node-or-token (kind_at t i)))
        (lt-or-le (depth_at t i) (depth_at t 0 + 1))

    module _ {d : ℕ} (e : d ≡ depth_at t i) (l : floor ≤ d) where
      -- a node that holds the offset
      pub pass_on : {best' : Option ℕ} {floor' r : ℕ} → (is_node (kind_at t i) && spans o (start_at t i) (end_at t i)) ≡ true
          → ((is_statement (kind_at t i) ≡ true) × (best' ≡ Some i) × (floor' ≡ d + 1)) ⊎ ((is_statement (kind_at t i) ≡ false) × (best' ≡ best) × (floor' ≡ floor))
          → Reached t (d + 1) (i + 1) r → Passing o t r best' floor'
      unfolding passing record_at
      pass_on {best'} {floor'} b q v =
          ⊎_elim
          (λ n.
          let y : spans o (start_at t i) (end_at t i) ≡ true = rw (le-leb (kind_at t i) last_node n) at b in
          record {
            some = w.some;
            first = w.first;
            root = w.root;
            reach = d + 1;
            left = sweep-far (sweep-into w.left h (omega (arith, w.below)) (w.near h) n (rw (le-leb floor (depth_at t i) (omega arith)) y) (ap (λ (x : ℕ). x + 1) e) (made_of y)) (omega (arith, w.below)) v;
            near = v.depth;
            below = ⊎_elim (λ x. omega (arith, x.2, w.below)) (λ x. omega (arith, x.2, w.below)) q;
          })
          (λ n. clash (rw (lt-leb (kind_at t i) last_node n) at b))
          (node-or-token (kind_at t i))
        where
          clash : {A : Type 0} → false ≡ true → A
          clash z = absurd (let x : ◌≡◌ {A = ℕ} 0 1 = cc in omega arith)

          made_of : spans o (start_at t i) (end_at t i) ≡ true → sofar best' floor' ≡ met o (sofar best floor) (record_at t 0 i)
          made_of y =
              rw (le-leb floor (depth_at t i) (omega arith), y, zero-add i)
              (⊎_elim (λ x. rw (x.0, x.1, x.2, e)) (λ x. rw (x.0, x.1, x.2)) q)

      -- a record that is no node, or does not hold the offset
      pub pass-over : {r : ℕ} → (is_node (kind_at t i) && spans o (start_at t i) (end_at t i)) ≡ false → Reached t d (i + 1) r → Passing o t r best floor
      unfolding passing record_at
      pass-over b v =
          ⊎_elim
          (λ n.
          let q : spans o (start_at t i) (end_at t i) ≡ false = rw (le-leb (kind_at t i) last_node n) at b in
          record {
            some = w.some;
            first = w.first;
            root = w.root;
            reach = d;
            left = sweep-far (sweep-past w.left h (omega (arith, w.below)) (w.near h) n (rw (le-leb floor (depth_at t i) (omega arith)) q) e (rw (le-leb floor (depth_at t i) (omega arith), q))) (omega (arith, w.below)) v;
            near = v.depth;
            below = w.below;
          })
          (λ n.
          record {
            some = w.some;
            first = w.first;
            root = w.root;
            reach = d;
            left = sweep-far (sweep-token w.left h (omega (arith, w.below)) (w.near h) n e refl) (omega (arith, w.below)) v;
            near = v.depth;
            below = w.below;
          })
          (node-or-token (kind_at t i))
