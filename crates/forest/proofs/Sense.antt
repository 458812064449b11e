-- That the Forest means what document 01 says:
--     admitted-tidy    what is true of an admitted table's records
--     whole-tree       on an admitted table the Forest's records, read in document order, are the table's records, each once, and each one's
--                      parent in the Forest is the nearest earlier record whose depth is one less
--     carried-tree     and that is the parent that it carries
-- Assumes nothing.
use Prim.Native.Nat.{ℕ, zero, suc, ◌+◌, ◌-◌, ◌*◌, ◌%◌, ◌≤◌, ◌<◌}
use mathlib.Core.Path.{◌≡◌, refl, sym, ap, ◌∙◌}
use mathlib.Core.Bool.{Bool, true, false, cond}
use mathlib.Core.List.{List, [], ◌∷◌, ◌++◌, append-nil}
use mathlib.Core.Logic.{◌⊎◌, inl, inr, ⊎_elim}
use native.Mathlib.Omega.{arith}
use native.Mathlib.Numerals.{add-one}
use native.Mathlib.Nat.{zero-add}
use borrow.Author.Tests.{eq-eqb, ne_eqb, eqb-true}
use lib.ListN.{length, take, drop}
use lib.Dec.{eqb}
use Rattle.std.specs.Prelude.{Ok}
use Rattle.lent.specs.Verdicts.{Verdict}
use Rattle.records.specs.declared.record.Rec.{Rec}
use Rattle.records.specs.Kinds.{is_token, other_token, arrow}
use Rattle.records.specs.Table.{record_bytes, count, kind_at, depth_at, start_at, end_at, parent_at, record_at, run, from, records}
use Rattle.forest.specs.Forest.{Forest, nil, token, node, level, kids, extent}
use Rattle.conditions.specs.Conditions.{most_records, most_depth, most_source, nearest, parent_of, last_end}
use Rattle.table.specs.Rules.{verdict}
use Rattle.table.specs.Exactly.{Node, Token, Broken, broken-1, broken-2, broken-3, broken-4, broken-5, broken-12, broken-6, MisplacedLater, BadSpan}
use Rattle.forest.specs.Sense.{Tidy, tree_of, Linked, in_order, by_depth, as_carried}
use Rattle.lent.proofs.Cases.{lt-or-le, eq-or-not}
use Rattle.forest.proofs.Laws.{node-or-token, level-shallow, level-deep, level-token, level-node, extent-deep, extent-stop, from_cons}
use Rattle.table.proofs.Exactly.{admitted-exactly, bad-length, too-long, unlisted-kind, misplaced-first, misplaced-later, too-deep, bad-span, ends-after, clash, token→, token←}

-- ---- an admitted table is tidy

is-token : (k : ℕ) → Token k ⊎ (Token k → ⊥)
is-token k =
    ⊎_elim
    (λ h. inr (λ e. omega (arith, e.0)))
    (λ h. ⊎_elim (λ g. inr (λ e. omega (arith, e.1))) (λ g. inl (h, g)) (lt-or-le arrow k))
    (lt-or-le k other_token)

module _ (t : List ℕ) (n m : ℕ) (v : verdict t n m ≡ Ok tt) where
  none : (k d : ℕ) → Broken t n m k d → ⊥
  none = (admitted-exactly t n m).0 v

  few : count t ≤ most_records
  few = ⊎_elim (λ h. absurd (none 1 0 (broken-1 refl refl ((bad-length t).1 (inr (inr h)))))) (λ h. h) (lt-or-le most_records (count t))

  multiple : length t % record_bytes ≡ 0
  multiple = ⊎_elim (λ e. e) (λ e. absurd (none 1 0 (broken-1 refl refl ((bad-length t).1 (inr (inl e)))))) (eq-or-not (length t % record_bytes) 0)

  filled : length t ≡ 0 → ⊥
  filled e = none 1 0 (broken-1 refl refl ((bad-length t).1 (inl e)))

  sized : length t ≡ record_bytes * count t
  sized = omega (arith, multiple)

  some : 0 < count t
  some = ⊎_elim (λ h. h) (λ h. absurd (filled (omega (arith, multiple)))) (lt-or-le 0 (count t))

  short : n ≤ most_source
  short = ⊎_elim (λ h. absurd (none 2 0 (broken-2 refl refl ((too-long n m).1 (inl h))))) (λ h. h) (lt-or-le most_source n)

  top : Node (kind_at t 0) × (depth_at t 0 ≡ 0)
  top = ⊎_elim (λ k. ⊎_elim (λ d. (k, d)) (λ d. bad (λ x. d x.1)) (eq-or-not (depth_at t 0) 0)) (λ k. bad (λ x. omega (arith, x.0))) (node-or-token (kind_at t 0))
    where
      bad : (Node (kind_at t 0) × (depth_at t 0 ≡ 0) → ⊥) → Node (kind_at t 0) × (depth_at t 0 ≡ 0)
      bad h = absurd (none 4 0 (broken-4 refl some ((misplaced-first t).1 h)))

  kinds : (i : ℕ) → i < count t → Node (kind_at t i) ⊎ Token (kind_at t i)
  kinds i h =
      ⊎_elim
      inl
      (λ g. ⊎_elim inr (λ e. absurd (none 3 i (broken-3 refl h ((unlisted-kind t i).1 ((λ x. omega arith), e))))) (is-token (kind_at t i)))
      (node-or-token (kind_at t i))

  module _ (i : ℕ) (h : i + 1 < count t) where
    placed : MisplacedLater t i → ⊥
    placed x = none 4 (i + 1) (broken-4 refl h ((misplaced-later t i).1 x))

    under : 1 ≤ depth_at t (i + 1)
    under = ⊎_elim (λ e. absurd (placed (inl e))) (λ e. positive (depth_at t (i + 1)) e) (eq-or-not (depth_at t (i + 1)) 0)
      where
        positive : (d : ℕ) → (d ≡ 0 → ⊥) → 1 ≤ d
        positive zero e = absurd (e refl)
        positive (suc d) e = omega arith

    step : depth_at t (i + 1) ≤ depth_at t i + 1
    step = ⊎_elim (λ e. absurd (placed (inr (inl e)))) (λ e. e) (lt-or-le (depth_at t i + 1) (depth_at t (i + 1)))

    leaf : Token (kind_at t i) → depth_at t (i + 1) ≤ depth_at t i
    leaf k = ⊎_elim (λ e. absurd (placed (inr (inr (k, e))))) (λ e. e) (lt-or-le (depth_at t i) (depth_at t (i + 1)))

  depths : (i : ℕ) → i < count t → depth_at t i ≤ most_depth
  depths i h = ⊎_elim (λ e. absurd (none 5 i (broken-5 refl h ((too-deep t i).1 e)))) (λ e. e) (lt-or-le most_depth (depth_at t i))

  parents : (i : ℕ) → i < count t → parent_at t i ≡ parent_of t i
  parents i h = go (eqb (parent_at t i) (parent_of t i)) refl
    where
      go : (b : Bool) → eqb (parent_at t i) (parent_of t i) ≡ b → parent_at t i ≡ parent_of t i
      go true e = eqb-true (parent_at t i) (parent_of t i) e
      go false e = absurd (none 12 i (broken-12 refl h (rw e)))

  module _ (i : ℕ) (h : i < count t) (k : Token (kind_at t i)) where
    spanned : BadSpan t n i → ⊥
    spanned x = none 6 i (broken-6 refl h ((bad-span t n i).1 x))

    forward : start_at t i ≤ end_at t i
    forward = ⊎_elim (λ e. absurd (spanned (k, inl e))) (λ e. e) (lt-or-le (end_at t i) (start_at t i))

    within : end_at t i ≤ n
    within = ⊎_elim (λ e. absurd (spanned (k, inr (inl e)))) (λ e. e) (lt-or-le n (end_at t i))

    after_last : last_end t i ≤ start_at t i
    after_last = ⊎_elim (λ e. absurd (spanned (k, inr (inr (ends-after t i (start_at t i) e))))) (λ e. e) (lt-or-le (start_at t i) (last_end t i))

  -- the ends of the tokens before record j are at most the last one's
  ends-before : (i j : ℕ) → i < j → j ≤ count t → Token (kind_at t i) → end_at t i ≤ last_end t j
  unfolding last_end
  ends-before i zero p h k = absurd (omega arith)
  ends-before i (suc j) p h k = go (is_token (kind_at t j)) refl (ends-before i j)
    where
      go : (b : Bool) → is_token (kind_at t j) ≡ b → (i < j → j ≤ count t → Token (kind_at t i) → end_at t i ≤ last_end t j)
          → end_at t i ≤ cond b (end_at t j) (last_end t j)
      go true e ih =
          let w = token→ (kind_at t j) e in
          ⊎_elim
          (λ q. omega (arith, ih q (omega arith) k, after_last j h w, forward j h w))
          (λ (q : j ≤ i). let z : i ≡ j = omega arith in omega (arith, ap (end_at t) z))
          (lt-or-le i j)
      go false e ih =
          ⊎_elim
          (λ q. ih q (omega arith) k)
          (λ q. let z : i ≡ j = omega arith in absurd (clash e (token← (kind_at t j) (rw z at k))))
          (lt-or-le i j)

  pub admitted-tidy : Tidy t n
  admitted-tidy =
      record {
        whole = sized;
        some = some;
        few = few;
        short = short;
        top = top;
        kinds = kinds;
        under = under;
        step = step;
        leaf = leaf;
        depths = depths;
        parents = parents;
        spans = λ i h k. (forward i h k, within i h k);
        order = λ i j p h a b. omega (arith, ends-before i j p (omega arith) a, after_last j h b);
      }

-- ---- the Forest of a tidy table

-- the records at the head that are deeper than k, and what is after those
abbrev deeper : ℕ → List Rec → List Rec
deeper k rs = take (extent k rs) rs

abbrev past : ℕ → List Rec → List Rec
past k rs = drop (extent k rs) rs

by_append : (t : List ℕ) (xs ys : List Rec) → by_depth t (xs ++ ys) ≡ by_depth t xs ++ by_depth t ys
unfolding by_depth
by_append t [] ys = refl
by_append t (x ∷ xs) ys = rw (by_append t xs ys)

split : (k : ℕ) (rs : List Rec) → deeper (k + 1) rs ++ deeper k (past (k + 1) rs) ≡ deeper k rs
unfolding extent
split k [] = refl
split k (r ∷ rs) =
    ⊎_elim
    (λ h. rw (extent-deep (k + 1) r rs h, extent-deep k r rs (omega arith)) (ap (λ (l : List Rec). r ∷ l) (split k rs)))
    (λ h. rw (extent-stop (k + 1) r rs h))
    (lt-or-le (k + 1) r.depth)

module _ (t : List ℕ) (n : ℕ) (w : Tidy t n) where
  abbrev rest : ℕ → ℕ → List Rec
  rest i c = run t 0 i c

  -- where the first record is not deeper than k, nothing is passed over
  past-none : (k i c : ℕ) → (0 < c → depth_at t i ≤ k) → past k (rest i c) ≡ rest i c
  unfolding run extent record_at
  past-none k i zero h = refl
  past-none k i (suc c) h = rw (extent-stop k (record_at t 0 i) (run t 0 (i + 1) c) (h (omega arith)))

  nearest-on : (k i : ℕ) → (depth_at t i ≡ k → ⊥) → nearest t (k + 1) (i + 1) ≡ nearest t (k + 1) i
  unfolding nearest
  nearest-on k i h = rw (add-one i, ne_eqb (depth_at t i + 1) (k + 1) (λ e. h (omega arith)))

  nearest-here : (k i : ℕ) → depth_at t i ≡ k → nearest t (k + 1) (i + 1) ≡ i
  unfolding nearest
  nearest-here k i h = rw (add-one i, eq-eqb (depth_at t i + 1) (k + 1) (omega arith))

  abbrev linked : ℕ → ℕ → Linked
  linked i p = record { self = record_at t 0 i; parent = p }

  -- record i at the head of the siblings of depth k + 1, and what follows it
  by-cons : (k i : ℕ) (rs : List Rec) → depth_at t i ≡ k + 1 → by_depth t (record_at t 0 i ∷ rs) ≡ linked i (nearest t (k + 1) i) ∷ by_depth t rs
  unfolding by_depth record_at
  by-cons k i rs d = rw (zero-add i, d)

  in-token : (p i : ℕ) (f : Forest) → in_order p (token (record_at t 0 i) f) ≡ linked i p ∷ in_order p f
  unfolding in_order
  in-token p i f = refl

  in-node : (p i : ℕ) (b f : Forest) → in_order p (node (record_at t 0 i) b f) ≡ linked i p ∷ (in_order i b ++ in_order p f)
  unfolding in_order
  in-node p i b f =
      let e : (record_at t 0 i).index ≡ i = (unfold record_at in zero-add i) in
      ap (λ (x : ℕ). linked i p ∷ (in_order x b ++ in_order p f)) e

  -- the records from i on, one by one
  module _ (k i p c : ℕ) (z : i + suc c ≡ count t) (q : nearest t (k + 1) i ≡ p) where
    abbrev tail : List Rec
    tail = rest (i + 1) c

    abbrev Tells : Type 0
    Tells = in_order p (level (k + 1) (record_at t 0 i ∷ tail)) ≡ by_depth t (deeper k (past (k + 1) (record_at t 0 i ∷ tail)))

    abbrev On : ℕ → ℕ → Type 0
    On k p = in_order p (level (k + 1) tail) ≡ by_depth t (deeper k (past (k + 1) tail))

    at-deep : k + 1 < depth_at t i → (nearest t (k + 1) (i + 1) ≡ p → On k p) → Tells
    unfolding record_at
    at-deep h on =
        rw (level-deep (k + 1) (record_at t 0 i) tail h, extent-deep (k + 1) (record_at t 0 i) tail h)
        (on (nearest-on k i (λ e. omega arith) ∙ q))

    at-shallow : depth_at t i ≤ k → Tells
    unfolding record_at in_order by_depth
    at-shallow h =
        rw (level-shallow (k + 1) (record_at t 0 i) tail (omega arith), extent-stop (k + 1) (record_at t 0 i) tail (omega arith), extent-stop k (record_at t 0 i) tail h)

    module _ (d : depth_at t i ≡ k + 1) where
      at-token : Token (kind_at t i) → (nearest t (k + 1) (i + 1) ≡ p → On k p) → Tells
      unfolding record_at
      at-token a on =
          let none : past (k + 1) tail ≡ tail = past-none (k + 1) (i + 1) c (λ h. omega (arith, w.leaf i (omega arith) a)) in
          rw (level-token (k + 1) (record_at t 0 i) tail d (omega (arith, a.0)), extent-stop (k + 1) (record_at t 0 i) tail (omega arith), extent-deep k (record_at t 0 i) tail (omega arith), in-token p i (level (k + 1) tail), by-cons k i (deeper k tail) d, q)
          (ap (λ (l : List Linked). linked i p ∷ l) (on (nearest-on k i (λ e. omega arith) ∙ q) ∙ rw none))

      at-node : Node (kind_at t i) → (nearest t (k + 1) (i + 1) ≡ p → On k p) → (nearest t (k + 1 + 1) (i + 1) ≡ i → On (k + 1) i) → Tells
      unfolding record_at
      at-node a on down =
          let none : past (k + 1 + 1) tail ≡ tail = past-none (k + 1 + 1) (i + 1) c (λ h. omega (arith, w.step i (omega arith))) in
          rw (level-node (k + 1) (record_at t 0 i) tail d a, extent-stop (k + 1) (record_at t 0 i) tail (omega arith), extent-deep k (record_at t 0 i) tail (omega arith), in-node p i (level (k + 1 + 1) tail) (level (k + 1) tail), by-cons k i (deeper k tail) d, q, on (nearest-on k i (λ e. omega arith) ∙ q), down (nearest-here (k + 1) i d), none)
          (ap (λ (l : List Linked). linked i p ∷ l) (sym (by_append t (deeper (k + 1) tail) (deeper k (past (k + 1) tail))) ∙ ap (by_depth t) (split k tail)))

  all-below : (c k i p : ℕ) → i + c ≡ count t → nearest t (k + 1) i ≡ p → in_order p (level (k + 1) (rest i c)) ≡ by_depth t (deeper k (past (k + 1) (rest i c)))
  unfolding run
  all-below zero k i p z q = (unfold level in_order extent by_depth in refl)
  all-below (suc c) k i p z q =
      ⊎_elim
      (λ h. at-deep k i p c z q h (all-below c k (i + 1) p (omega arith)))
      (λ h.
      ⊎_elim
      (λ g. at-shallow k i p c z q (omega arith))
      (λ g.
      let d : depth_at t i ≡ k + 1 = omega arith in
      ⊎_elim
      (λ a. at-node k i p c z q d a (all-below c k (i + 1) p (omega arith)) (all-below c (k + 1) (i + 1) i (omega arith)))
      (λ a. at-token k i p c z q d a (all-below c k (i + 1) p (omega arith)))
      (w.kinds i (omega arith)))
      (lt-or-le (depth_at t i) (k + 1)))
      (lt-or-le (k + 1) (depth_at t i))

  -- every record after the first is below it
  all-deeper : (i c : ℕ) → 0 < i → i + c ≡ count t → deeper 0 (rest i c) ≡ rest i c
  unfolding run extent
  all-deeper i zero p z = refl
  all-deeper i (suc c) p z =
      let e : i - 1 + 1 ≡ i = omega arith in
      let d : 0 < depth_at t i = rw e at (w.under (i - 1) (omega arith)) in
      rw (extent-deep 0 (record_at t 0 i) (rest (i + 1) c) (unfold record_at in d))
      (ap (λ (l : List Rec). record_at t 0 i ∷ l) (all-deeper (i + 1) c (omega arith) (omega arith)))

  -- record 0 and the others
  others : records 0 t ≡ record_at t 0 0 ∷ rest 1 (count t - 1)
  unfolding from
  others = from_cons t 0 0 w.some

  kids-all : kids (records 0 t) ≡ level (0 + 1) (rest 1 (count t - 1))
  unfolding kids record_at
  kids-all = ap kids others ∙ rw w.top.1

  kids-linked : in_order 0 (kids (records 0 t)) ≡ by_depth t (rest 1 (count t - 1))
  unfolding nearest
  kids-linked =
      rw kids-all
      (all-below (count t - 1) 0 1 0 (omega (arith, w.some)) (rw w.top.1)
      ∙ rw (past-none (0 + 1) 1 (count t - 1) (λ h. omega (arith, w.step 0 (omega arith), w.top.1)), all-deeper 1 (count t - 1) (omega arith) (omega (arith, w.some))))

  first-linked : (rs : List Rec) → by_depth t (record_at t 0 0 ∷ rs) ≡ linked 0 0 ∷ by_depth t rs
  unfolding by_depth nearest record_at
  first-linked rs = refl

  -- THE THEOREM
  pub whole-tree : in_order 0 (tree_of t) ≡ by_depth t (records 0 t)
  whole-tree =
      let none : in_order 0 nil ≡ [] = (unfold in_order in refl) in
      in-node 0 0 (kids (records 0 t)) nil
      ∙ rw (kids-linked, none, append-nil (by_depth t (rest 1 (count t - 1)))) (sym (ap (by_depth t) others ∙ first-linked (rest 1 (count t - 1))))

  carried : (c i : ℕ) → i + c ≡ count t → by_depth t (run t 0 i c) ≡ as_carried t (run t 0 i c)
  unfolding run by_depth as_carried record_at
  carried zero i z = refl
  carried (suc c) i z = rw (zero-add i, w.parents i (omega arith), carried c (i + 1) (omega arith))

  -- THE THEOREM, of the parents that the records carry
  pub carried-tree : in_order 0 (tree_of t) ≡ as_carried t (records 0 t)
  carried-tree = whole-tree ∙ (unfold from in carried (count t - 0) 0 (omega arith))

-- an admitted table has a record, and few
pub admitted-sized : (t : List ℕ) (n : ℕ) {v : Verdict} → v ≡ verdict t n 0 → v ≡ Ok tt → (0 < count t) × (count t < 4294967296)
admitted-sized t n e q = let y = admitted-tidy t n 0 (sym e ∙ q) in (y.some, omega (arith, y.few))
