-- The fast check: a loop that only says that every record is in order.
--     order-start, -at, -node, -deepest, -token, -end    record by record: what it says at the end is that the rules admit the table
-- Assumes nothing.
use Prim.Native.Nat.{ℕ, zero, suc, ◌+◌, ◌≤◌, ◌<◌}
use mathlib.Core.Path.{◌≡◌, refl, sym, ap, ◌∙◌}
use mathlib.Core.Bool.{Bool, true, false, cond, not, ◌&&◌, ◌||◌}
use mathlib.Core.Logic.{◌⊎◌, inl, inr, ⊎_elim}
use mathlib.Core.List.{List}
use native.Mathlib.Numerals.{add-one}
use native.Mathlib.Nat.{zero-add}
use native.Mathlib.Omega.{arith}
use borrow.Author.Tests.{le-ltb, le-leb, lt-leb, eq-eqb, ne_eqb, ltb-false, leb-true, eqb-true}
use lib.Dec.{eqb, ltb, leb}
use lib.ListN.{get_or, set, replicate, length-set}
use lib.Seq.{get_or-set_same, get_or-set_other}
use Rattle.std.specs.Prelude.{Ok}
use Rattle.records.specs.Kinds.{is_node, is_token, last_node, other_token}
use Rattle.records.specs.Table.{count, kind_at, depth_at, start_at, end_at, parent_at, record_at}
use Rattle.conditions.specs.Conditions.{most_depth, misplaced, too_deep, nearest, parent_of, wrong_parent, bad_span, last_end}
use Rattle.refusals.specs.ByRecord.{rules_from}
use Rattle.lent.specs.Verdicts.{first}
use Rattle.record_conditions.specs.inner.Step.{depths, deepest_next, known_at, out_of_place}
use Rattle.in_order.specs.inner.Fast.{first_fits, span_fits, Kept, InOrder}
use Rattle.lent.proofs.Cases.{lt-or-le, eq-or-not, both}
use Rattle.record_conditions.proofs.Steps.{place_at}

-- a node is no token
node-token : (k : ℕ) → k ≤ last_node → is_token k ≡ false
node-token k h = rw (lt-leb other_token k (omega arith))

module _ (t : List ℕ) where
  pub order-start : first_fits t ≡ true → InOrder t 1 1 0 0 (replicate depths 0)
  unfolding misplaced nearest deepest_next last_end
  order-start e =
      let b = both (is_node (kind_at t 0) && eqb (depth_at t 0) 0) (eqb (parent_at t 0) 0) e in
      let a = both (is_node (kind_at t 0)) (eqb (depth_at t 0) 0) b.0 in
      let d : depth_at t 0 ≡ 0 = eqb-true (depth_at t 0) 0 a.1 in
      let x : is_token (kind_at t 0) ≡ false = node-token (kind_at t 0) (leb-true (kind_at t 0) last_node a.0) in
      record {
        kept = λ j h.
            let z : j ≡ 0 = omega arith in
            rw z
            (record {
              listed = rw a.0;
              placed = rw (a.0, a.1);
              shallow = rw d;
              parented = rw b.1;
              spanned = λ y. absurd (let q : ◌≡◌ {A = ℕ} 0 1 = cc in omega arith);
            });
        reach = rw (x, d) (omega arith);
        shallow = omega arith;
        below = omega arith;
        carried = rw d;
        ends = rw x;
        wide = refl;
        parents = λ k p q. let z : k ≡ 1 = omega arith in rw (z, d);
      }

  -- record i goes up, to depth d
  pub order-up : {i limit parent last : ℕ} {above : List ℕ} → InOrder t i limit parent last above → {d p : ℕ} → 1 ≤ d → d ≤ limit → p ≡ get_or above d 0
      → InOrder t i d p last above
  order-up w {d} u l e =
      record {
        kept = w.kept;
        reach = omega (arith, w.reach);
        shallow = omega (arith, w.shallow);
        below = u;
        carried = e ∙ w.parents d u l;
        ends = w.ends;
        wide = w.wide;
        parents = λ n a b. w.parents n a (omega arith);
      }

  -- record i, of depth d, goes up, or is as deep as it may be: from here on the limit is its depth
  pub order-at : {i limit parent last d p : ℕ} {above : List ℕ} → InOrder t i limit parent last above → d ≡ depth_at t i
      → ((d ≤ limit) × (d ≡ 0 → ⊥) × (p ≡ get_or above d 0)) ⊎ ((d ≡ limit) × (p ≡ parent))
      → InOrder t i d p last above × (d ≡ depth_at t i)
  order-at w e (inl (l, z, q)) = (order-up w (omega (arith, z)) l q, e)
  order-at w e (inr (z, q)) = (rw (z, q) w, e)

  module _ {i d parent last : ℕ} {above : List ℕ} (w : InOrder t i d parent last above) (s : 1 ≤ i) (e : d ≡ depth_at t i) (p : parent_at t i ≡ parent) where
    place : misplaced t i ≡ false
    place = sym (place_at t i) ∙ (unfold out_of_place known_at record_at in rw (zero-add i, ne_eqb i 0 (λ z. omega arith), ← e, ne_eqb d 0 (λ z. omega (arith, w.below)), le-ltb (deepest_next t i) d w.reach))

    deep : too_deep t i ≡ false
    deep = rw (← e) (le-ltb most_depth d w.shallow)

    right : wrong_parent t i ≡ false
    right = rw (eq-eqb (parent_at t i) (parent_of t i) (p ∙ w.carried ∙ rw e))

    -- the records before, and this one
    further : Kept t i → (j : ℕ) → j < suc i → Kept t j
    further k j g = ⊎_elim (λ x. w.kept j x) (λ x. let z : j ≡ i = omega arith in rw z k) (lt-or-le j i)

    -- the last record one less deep than k is the same after this one, but for what is below it
    same : (k : ℕ) → (d + 1 ≡ k → ⊥) → nearest t k (suc i) ≡ nearest t k i
    unfolding nearest
    same k f = rw (← e, ne_eqb (d + 1) k f)

    -- a node is kept
    node_kept : kind_at t i ≤ last_node → Kept t i
    node_kept k =
        record {
          listed = rw (le-leb (kind_at t i) last_node k);
          placed = place;
          shallow = deep;
          parented = right;
          spanned = λ y. absurd (let x : is_token (kind_at t i) ≡ false = node-token (kind_at t i) k in let z : ◌≡◌ {A = ℕ} 0 1 = cc in omega arith);
        }

    pub order-node : kind_at t i ≤ last_node → d < most_depth → InOrder t (i + 1) (d + 1) i last (set above (d + 1) i)
    unfolding nearest deepest_next last_end
    order-node k l =
        let x : is_token (kind_at t i) ≡ false = node-token (kind_at t i) k in
        rw (add-one i)
        (record {
          kept = further (node_kept k);
          reach = rw (x, ← e) (omega arith);
          shallow = omega arith;
          below = omega arith;
          carried = rw (← e, eq-eqb (d + 1) (d + 1) refl);
          ends = rw x w.ends;
          wide = length-set above (d + 1) i ∙ w.wide;
          parents = found;
        })
      where
        found : (n : ℕ) → 1 ≤ n → n ≤ d + 1 → get_or (set above (d + 1) i) n 0 ≡ nearest t n (suc i)
        found n a b =
            ⊎_elim
            (λ z. rw (← e, eq-eqb (d + 1) n z, ← z) (get_or-set_same above (d + 1) i 0 (omega (arith, w.wide))))
            (λ z. get_or-set_other above (d + 1) n i 0 (λ y. z (sym y)) ∙ w.parents n a (omega arith) ∙ sym (same n z))
            (eq-or-not (d + 1) n)

    -- nothing may stand below a node that is as deep as one may be
    pub order-deepest : kind_at t i ≤ last_node → most_depth ≤ d → InOrder t (i + 1) d parent last above
    unfolding deepest_next last_end
    order-deepest k l =
        let x : is_token (kind_at t i) ≡ false = node-token (kind_at t i) k in
        rw (add-one i)
        (record {
          kept = further (node_kept k);
          reach = rw (x, ← e) (omega arith);
          shallow = w.shallow;
          below = w.below;
          carried = w.carried ∙ sym (same d (λ z. omega arith));
          ends = rw x w.ends;
          wide = w.wide;
          parents = λ n a b. w.parents n a b ∙ sym (same n (λ z. omega arith));
        })

    pub order-token : {last' : ℕ} → is_token (kind_at t i) ≡ true → span_fits (start_at t i) (end_at t i) last ≡ true → last' ≡ end_at t i
        → InOrder t (i + 1) d parent last' above
    unfolding deepest_next last_end
    order-token x f q =
        let b = both (not (ltb (start_at t i) last)) (leb (start_at t i) (end_at t i)) f in
        rw (add-one i)
        (record {
          kept = further
              (record {
                listed = rw x (listed (is_node (kind_at t i)));
                placed = place;
                shallow = deep;
                parented = right;
                spanned = λ y. (leb-true (start_at t i) (end_at t i) b.1, omega (arith, ltb-false (start_at t i) last (not-true _ b.0), w.ends));
              });
          reach = rw (x, e) (omega arith);
          shallow = w.shallow;
          below = w.below;
          carried = w.carried ∙ sym (same d (λ z. omega arith));
          ends = rw x q;
          wide = w.wide;
          parents = λ n u v. w.parents n u v ∙ sym (same n (λ z. omega arith));
        })
      where
        listed : (c : Bool) → not (c || true) ≡ false
        listed true = refl
        listed false = refl

        not-true : (c : Bool) → not c ≡ true → c ≡ false
        not-true true y = sym y
        not-true false y = refl

  -- ---- after the last record

  module _ (i : ℕ) (kept : (j : ℕ) → j < i → Kept t j) where
    -- ends rise
    rising : (m j : ℕ) → m ≤ i → j < m → is_token (kind_at t j) ≡ true → end_at t j ≤ last_end t m
    unfolding last_end
    rising zero j g h k = absurd (omega arith)
    rising (suc m) j g h k = go (is_token (kind_at t m)) refl (rising m j (omega arith))
      where
        go : (b : Bool) → is_token (kind_at t m) ≡ b → (j < m → is_token (kind_at t j) ≡ true → end_at t j ≤ last_end t m) → end_at t j ≤ cond b (end_at t m) (last_end t m)
        go true e ih =
            let y = (kept m (omega arith)).spanned e in
            ⊎_elim
            (λ x. omega (arith, ih x k, y))
            (λ x. let z : j ≡ m = omega arith in omega (arith, ap (end_at t) z))
            (lt-or-le j m)
        go false e ih =
            ⊎_elim
            (λ x. ih x k)
            (λ x. let z : j ≡ m = omega arith in absurd (let q : ◌≡◌ {A = ℕ} 0 1 = cc in omega arith))
            (lt-or-le j m)

    span : (n j : ℕ) → last_end t i ≤ n → j < i → bad_span t n j ≡ false
    unfolding bad_span
    span n j l h = go (is_token (kind_at t j)) refl
      where
        go : (b : Bool) → is_token (kind_at t j) ≡ b → (b && (ltb (end_at t j) (start_at t j) || ltb n (end_at t j) || ltb (start_at t j) (last_end t j))) ≡ false
        go true e =
            let y = (kept j h).spanned e in
            rw (
              le-ltb (end_at t j) (start_at t j) y.0,
              le-ltb n (end_at t j) (omega (arith, rising i j (omega arith) h e)),
              le-ltb (start_at t j) (last_end t j) y.1,
            )
        go false e = refl

    all : (n c k : ℕ) → last_end t i ≤ n → k + c ≡ i → first (rules_from t n k c) ≡ Ok tt
    unfolding rules_from
    all n zero k l z = refl
    all n (suc c) k l z =
        let y = kept k (omega arith) in
        rw (y.listed, y.placed, y.shallow, y.parented, span n k l (omega arith)) (all n c (suc k) l (omega arith))

  pub order-end : {i limit parent last n : ℕ} {above : List ℕ} → InOrder t i limit parent last above → count t ≤ i → i ≤ count t → last ≤ n
      → Ok tt ≡ first (rules_from t n 0 (count t))
  order-end {i} {limit} {parent} {last} {n} w a b l =
      let z : i ≡ count t = omega arith in
      sym (rw (← z) (all i w.kept n i 0 (omega (arith, w.ends)) (omega arith)))
