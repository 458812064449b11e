-- What the walks cite. Nothing here knows of any one answer.
-- Assumes nothing.
use mathlib.Core.Path.{◌≡◌, refl, sym, ap, ◌∙◌}
use mathlib.Core.Logic.{◌⊎◌, inl, inr, ⊎_elim}
use mathlib.Core.List.{List, [], ◌∷◌}
use Prim.Native.Nat.{ℕ, zero, suc, ◌+◌, ◌-◌, ◌*◌, ◌≤◌, ◌<◌}
use native.Mathlib.Nat.{sub-eq-zero_of_le, add-zero, sub-zero, zero-sub, zero-add, add_assoc, le_of_lt}
use native.Mathlib.Omega.{arith}
use borrow.Author.Tests.{lt-ltb, le-ltb, le-leb, lt-leb}
use lib.ListN.{get_or, take, drop, length-take, length-drop}
use lib.Seq.{get_or-take, get_or-drop}
use Rattle.lent.proofs.Cases.{lt-or-le}
use Rattle.records.specs.declared.record.Rec.{Rec}
use Rattle.records.specs.Kinds.{last_node}
use Rattle.records.specs.Table.{record_bytes, count, kind_at, depth_at, record_at, run, from, records, part}
use Rattle.lent.specs.Numbers.{word}
use Rattle.forest.specs.Forest.{nil, token, node, level, kids, extent, siblings, stretch_end, children, Child}

-- ---- `level` by cases

pub level-shallow : (k : ℕ) (r : Rec) (rs : List Rec) → r.depth < k → level k (r ∷ rs) ≡ nil
unfolding level
level-shallow k r rs h = rw (lt-ltb r.depth k h)

pub level-deep : (k : ℕ) (r : Rec) (rs : List Rec) → k < r.depth → level k (r ∷ rs) ≡ level k rs
unfolding level
level-deep k r rs h = rw (le-ltb r.depth k (omega arith), lt-ltb k r.depth h)

pub level-token : (k : ℕ) (r : Rec) (rs : List Rec) → r.depth ≡ k → last_node < r.kind → level k (r ∷ rs) ≡ token r (level k rs)
unfolding level
level-token k r rs e h = rw (le-ltb r.depth k (omega arith), le-ltb k r.depth (omega arith), lt-leb r.kind last_node h)

pub level-node : (k : ℕ) (r : Rec) (rs : List Rec) → r.depth ≡ k → r.kind ≤ last_node → level k (r ∷ rs) ≡ node r (level (k + 1) rs) (level k rs)
unfolding level
level-node k r rs e h = rw (le-ltb r.depth k (omega arith), le-ltb k r.depth (omega arith), le-leb r.kind last_node h)

pub extent-deep : (k : ℕ) (r : Rec) (rs : List Rec) → k < r.depth → extent k (r ∷ rs) ≡ suc (extent k rs)
unfolding extent
extent-deep k r rs h = rw (lt-ltb k r.depth h)

pub extent-stop : (k : ℕ) (r : Rec) (rs : List Rec) → r.depth ≤ k → extent k (r ∷ rs) ≡ 0
unfolding extent
extent-stop k r rs h = rw (le-ltb k r.depth h)

-- what the walks take for a node, and for a token
pub node-or-token : (k : ℕ) → (k ≤ last_node) ⊎ (last_node < k)
node-or-token k = ⊎_elim inr inl (lt-or-le last_node k)

-- ---- the two laws of a stretch: its records are passed over by its own level, and are all that a deeper level sees

pub skip : (k : ℕ) (rs : List Rec) → level k rs ≡ level k (drop (extent k rs) rs)
unfolding extent
skip k [] = refl
skip k (r ∷ rs) =
    ⊎_elim
    (λ h. rw (level-deep k r rs h, extent-deep k r rs h) (skip k rs))
    (λ h. rw (extent-stop k r rs h))
    (lt-or-le k r.depth)

level-cong : (k : ℕ) (r : Rec) (xs ys : List Rec) → level k xs ≡ level k ys → level (k + 1) xs ≡ level (k + 1) ys → level k (r ∷ xs) ≡ level k (r ∷ ys)
unfolding level
level-cong k r xs ys p q = rw (p, q)

pub cut : (k j : ℕ) (rs : List Rec) → k < j → level j rs ≡ level j (take (extent k rs) rs)
unfolding extent level
cut k j [] h = refl
cut k j (r ∷ rs) h =
    ⊎_elim
    (λ d. rw (extent-deep k r rs d) (level-cong j r rs (take (extent k rs) rs) (cut k j rs h) (cut k (j + 1) rs (omega arith))))
    (λ d. rw (extent-stop k r rs d, level-shallow j r rs (omega arith)))
    (lt-or-le k r.depth)

-- ---- the records of a table, one by one, and of a part of it

pub from_end : (t : List ℕ) (base i : ℕ) → count t ≤ i → from t base i ≡ []
unfolding from run
from_end t base i h = rw (sub-eq-zero_of_le h)

pub from_cons : (t : List ℕ) (base i : ℕ) → i < count t → from t base i ≡ record_at t base i ∷ from t base (i + 1)
unfolding from run
from_cons t base i h =
    let e : count t - i ≡ suc (count t - (i + 1)) = omega arith in
    rw e

drop-run : (t : List ℕ) (base i x n : ℕ) → drop x (run t base i n) ≡ run t base (i + x) (n - x)
unfolding run
drop-run t base i zero n = rw (add-zero i, sub-zero n)
drop-run t base i (suc x) zero = rw (zero-sub (suc x))
drop-run t base i (suc x) (suc n) =
    let e : i + suc x ≡ i + 1 + x = omega arith in
    let f : suc n - suc x ≡ n - x = omega arith in
    rw (e, f) (drop-run t base (i + 1) x n)

take-run : (t : List ℕ) (base i x n : ℕ) → x ≤ n → take x (run t base i n) ≡ run t base i x
unfolding run
take-run t base i zero n h = refl
take-run t base i (suc x) zero h = absurd (omega arith)
take-run t base i (suc x) (suc n) h = ap (λ (l : List Rec). record_at t base i ∷ l) (take-run t base (i + 1) x n (omega arith))

suc-plus : (i m : ℕ) → i + suc m ≡ i + 1 + m
suc-plus i m = omega arith

pub run-same : (t u : List ℕ) (b c i j n : ℕ) → ((m : ℕ) → m < n → record_at t b (i + m) ≡ record_at u c (j + m)) → run t b i n ≡ run u c j n
unfolding run
run-same t u b c i j zero h = refl
run-same t u b c i j (suc n) h =
    let e : record_at t b i ≡ record_at u c j = simp add-zero at (h 0 (omega arith)) in
    let r : run t b (i + 1) n ≡ run u c (j + 1) n =
    run-same t u b c (i + 1) (j + 1) n (λ m l. simp (suc-plus i m, suc-plus j m) at (h (suc m) (omega arith))) in
    rw (e, r)

pub extent-run : (k : ℕ) (t : List ℕ) (b c i n : ℕ) → extent k (run t b i n) ≡ extent k (run t c i n)
unfolding run extent record_at
extent-run k t b c i zero = refl
extent-run k t b c i (suc n) = rw (extent-run k t b c (i + 1) n)

extent-le : (k : ℕ) (t : List ℕ) (b i n : ℕ) → extent k (run t b i n) ≤ n
unfolding run extent
extent-le k t b i zero = omega arith
extent-le k t b i (suc n) =
    let ih : extent k (run t b (i + 1) n) ≤ n = extent-le k t b (i + 1) n in
    ⊎_elim
    (λ h. rw (extent-deep k (record_at t b i) (run t b (i + 1) n) h) (omega arith))
    (λ h. rw (extent-stop k (record_at t b i) (run t b (i + 1) n) h) (omega arith))
    (lt-or-le k (record_at t b i).depth)

take-from : (t : List ℕ) (base j k : ℕ) → take (extent k (from t base j)) (from t base j) ≡ run t base j (extent k (from t base j))
unfolding from
take-from t base j k = take-run t base j (extent k (from t base j)) (count t - j) (extent-le k t base j (count t - j))

drop-from : (t : List ℕ) (base j x : ℕ) → drop x (from t base j) ≡ from t base (j + x)
unfolding from
drop-from t base j x = let e : count t - j - x ≡ count t - (j + x) = omega arith in drop-run t base j x (count t - j) ∙ ap (run t base (j + x)) e

kids-run : (t : List ℕ) (base i x : ℕ) → kids (run t base i (suc x)) ≡ level (depth_at t i + 1) (run t base (i + 1) x)
unfolding kids run record_at
kids-run t base i x = refl

-- ---- the search for the end of a stretch, a record at a time

-- a search at j, for the first record that is not deeper than k, will end at e
pub record Ends (t : List ℕ) (k j e : ℕ) : Type 0 where
  pub ends : j + extent k (from t 0 j) ≡ e

module _ {t : List ℕ} {k j e : ℕ} (v : Ends t k j e) where
  pub ends-none : count t ≤ j → j ≡ e
  unfolding extent
  ends-none h = let x : extent k (from t 0 j) ≡ 0 = rw (from_end t 0 j h) in omega arith

  pub ends-here : j < count t → depth_at t j ≤ k → j ≡ e
  unfolding record_at
  ends-here h d =
      let x : extent k (from t 0 j) ≡ 0 = rw (from_cons t 0 j h) (extent-stop k (record_at t 0 j) (from t 0 (j + 1)) d) in
      omega arith

  pub ends_on : j < count t → k < depth_at t j → Ends t k (j + 1) e
  unfolding record_at
  ends_on h d =
      let x : extent k (from t 0 j) ≡ suc (extent k (from t 0 (j + 1))) =
      rw (from_cons t 0 j h) (extent-deep k (record_at t 0 j) (from t 0 (j + 1)) d) in
      record { ends = omega arith }

pub ends-start : (t : List ℕ) (i k : ℕ) → k ≡ depth_at t i → Ends t k (i + 1) (stretch_end t i)
unfolding stretch_end
ends-start t i k d = record { ends = rw d }

-- ---- a part of a table: the records i up to, not including, e

module _ (t : List ℕ) (base i e : ℕ) (ie : i ≤ e) (ec : e ≤ count t) where
  pub count-part : count (part t i e) ≡ e - i
  count-part = simp (length-take, length-drop) (omega arith)

  byte-part : (x : ℕ) → x < record_bytes * e - record_bytes * i → get_or (part t i e) x 0 ≡ get_or t (record_bytes * i + x) 0
  byte-part x h = rw (get_or-take, get_or-drop)

  word-part : (x y : ℕ) → x + 4 ≤ record_bytes * e - record_bytes * i → record_bytes * i + x ≡ y → word (part t i e) x ≡ word t y
  unfolding word
  word-part x y h q = rw (← q, byte-part x (omega arith), byte-part (x + 1) (omega arith), byte-part (x + 2) (omega arith), byte-part (x + 3) (omega arith)) (simp add_assoc)

  record-part : (m : ℕ) → m < e - i → record_at (part t i e) (base + i) m ≡ record_at t base (i + m)
  unfolding record_at
  record-part m h =
      let n : base + i + m ≡ base + (i + m) = omega arith in
      rw (
        n,
        word-part (record_bytes * m) (record_bytes * (i + m)) (omega arith) (omega arith),
        word-part (record_bytes * m + 4) (record_bytes * (i + m) + 4) (omega arith) (omega arith),
        word-part (record_bytes * m + 8) (record_bytes * (i + m) + 8) (omega arith) (omega arith),
        word-part (record_bytes * m + 12) (record_bytes * (i + m) + 12) (omega arith) (omega arith),
      )

  -- the part's own records, numbered from base + i, are those of the whole
  pub kind-part : (m : ℕ) → m < e - i → kind_at (part t i e) m ≡ kind_at t (i + m)
  unfolding record_at
  kind-part m h = ap (λ (r : Rec). r.kind) (record-part m h)

  pub records-part : records (base + i) (part t i e) ≡ run t base i (e - i)
  unfolding from
  records-part =
      rw (count-part, sub-zero (e - i))
      (run-same (part t i e) t (base + i) base 0 i (e - i) (λ m h. rw (zero-add m) (record-part m h)))

-- ---- the rest of a table from record i on: what `&t[record_bytes * i..]` is

module _ (t : List ℕ) (base i : ℕ) where
  word-tail : (x y : ℕ) → record_bytes * i + x ≡ y → word (drop (record_bytes * i) t) x ≡ word t y
  unfolding word
  word-tail x y q = rw (← q) (simp (get_or-drop, add_assoc))

  pub record-tail : (m : ℕ) → record_at (drop (record_bytes * i) t) (base + i) m ≡ record_at t base (i + m)
  unfolding record_at
  record-tail m =
      let n : base + i + m ≡ base + (i + m) = omega arith in
      rw (
        n,
        word-tail (record_bytes * m) (record_bytes * (i + m)) (omega arith),
        word-tail (record_bytes * m + 4) (record_bytes * (i + m) + 4) (omega arith),
        word-tail (record_bytes * m + 8) (record_bytes * (i + m) + 8) (omega arith),
        word-tail (record_bytes * m + 12) (record_bytes * (i + m) + 12) (omega arith),
      )

  -- the kind of its first record
  pub rest-kind : kind_at (drop (record_bytes * i) t) 0 ≡ kind_at t i
  rest-kind = word-tail (record_bytes * 0) (record_bytes * i) (omega arith)

  pub count-tail : count (drop (record_bytes * i) t) ≡ count t - i
  count-tail = simp length-drop (omega arith)

  pub records-tail : records (base + i) (drop (record_bytes * i) t) ≡ from t base i
  unfolding from
  records-tail =
      rw (count-tail, sub-zero (count t - i))
      (run-same (drop (record_bytes * i) t) t (base + i) base 0 i (count t - i) (λ m h. rw (zero-add m) (record-tail m)))

-- ---- where a loop over the children of a stretch's first record begins

pub kids-none : (t : List ℕ) (base : ℕ) → count t ≡ 0 → kids (records base t) ≡ nil
unfolding kids
kids-none t base h = rw (from_end t base 0 (omega arith))

pub kids-first : (t : List ℕ) (base k : ℕ) → 0 < count t → k ≡ depth_at t 0 → kids (records base t) ≡ siblings t base (k + 1) 1
unfolding kids record_at siblings
kids-first t base k h d = rw (from_cons t base 0 h, d)

-- ---- what a loop over siblings does with record i

module _ (t : List ℕ) (base k i : ℕ) where
  pub siblings-end : count t ≤ i → siblings t base k i ≡ nil
  unfolding siblings level
  siblings-end h = rw (from_end t base i h)

  module _ (ic : i < count t) where
    -- shallower: the siblings end
    pub siblings-stop : depth_at t i < k → siblings t base k i ≡ nil
    unfolding siblings record_at
    siblings-stop h = rw (from_cons t base i ic) (level-shallow k (record_at t base i) (from t base (i + 1)) h)

    -- deeper: passed over
    pub siblings-skip : k < depth_at t i → siblings t base k i ≡ siblings t base k (i + 1)
    unfolding siblings record_at
    siblings-skip h = rw (from_cons t base i ic) (level-deep k (record_at t base i) (from t base (i + 1)) h)

    pub siblings-token : depth_at t i ≡ k → last_node < kind_at t i → siblings t base k i ≡ token (record_at t base i) (siblings t base k (i + 1))
    unfolding siblings record_at
    siblings-token d h = rw (from_cons t base i ic) (level-token k (record_at t base i) (from t base (i + 1)) d h)

    -- the end of record i's stretch, however the records are numbered
    end_is : depth_at t i ≡ k → stretch_end t i ≡ i + 1 + extent k (from t base (i + 1))
    unfolding stretch_end from
    end_is d = rw (d, extent-run k t 0 base (i + 1) (count t - (i + 1)))

    pub end_after : i < stretch_end t i
    unfolding stretch_end
    end_after = omega arith

    pub end-within : stretch_end t i ≤ count t
    unfolding stretch_end from
    end-within = omega (arith, extent-le (depth_at t i) t 0 (i + 1) (count t - (i + 1)))

    -- the level below sees the stretch alone, which is what the part's records say of the part
    pub kids-part : depth_at t i ≡ k → kids (records (base + i) (part t i (stretch_end t i))) ≡ level (k + 1) (from t base (i + 1))
    kids-part d =
        let rs : List Rec = from t base (i + 1) in
        let e : stretch_end t i - i ≡ suc (extent k rs) = omega (arith, end_is d) in
        ap kids (records-part t base i (stretch_end t i) (le_of_lt end_after) end-within ∙ ap (run t base i) e)
        ∙ kids-run t base i (extent k rs)
        ∙ rw d (ap (level (k + 1)) (sym (take-from t base (i + 1) k)) ∙ sym (cut k (k + 1) rs (omega arith)))

    -- of the rest of the table, too: the children end where the stretch ends
    pub kids-tail : depth_at t i ≡ k → kids (records (base + i) (drop (record_bytes * i) t)) ≡ kids (records (base + i) (part t i (stretch_end t i)))
    unfolding kids record_at
    kids-tail d = rw (records-tail t base i, from_cons t base i ic, kids-part d, d)

    -- the level itself goes on at the end of the stretch
    rest_part : depth_at t i ≡ k → siblings t base k (stretch_end t i) ≡ level k (from t base (i + 1))
    unfolding siblings
    rest_part d = rw (end_is d, ← drop-from t base (i + 1) (extent k (from t base (i + 1)))) (sym (skip k (from t base (i + 1))))

    -- the level passes over the stretch also a record at a time
    pub siblings-after : depth_at t i ≡ k → siblings t base k (stretch_end t i) ≡ siblings t base k (i + 1)
    unfolding siblings
    siblings-after d = rest_part d

    pub siblings-node : (e : ℕ) → e ≡ stretch_end t i → depth_at t i ≡ k → kind_at t i ≤ last_node
        → siblings t base k i ≡ node (record_at t base i) (kids (records (base + i) (part t i e))) (siblings t base k e)
    unfolding record_at
    siblings-node e q d h =
        rw (q, kids-part d, rest_part d)
        (unfold siblings in rw (from_cons t base i ic) (level-node k (record_at t base i) (from t base (i + 1)) d h))

-- the first record of a stretch is its node
pub head-part : (t : List ℕ) (base i : ℕ) {p : List ℕ} → i < count t → p ≡ part t i (stretch_end t i) → record_at p (base + i) 0 ≡ record_at t base i
head-part t base i h q =
    let e = record-part t base i (stretch_end t i) (le_of_lt (end_after t base 0 i h)) (end-within t base 0 i h) 0 (omega (arith, end_after t base 0 i h)) in
    rw q (rw (add-zero i) at e)

-- ---- the search for the next child, a record at a time

-- a search for a child that began at j stands at i
pub record Seeks (t : List ℕ) (j i : ℕ) : Type 0 where
  pub on : j ≤ i
  pub within : i ≤ count t
  pub same : (base : ℕ) → children t base j ≡ children t base i

pub seeks-start : (t : List ℕ) (j : ℕ) → j ≤ count t → Seeks t j j
seeks-start t j h = record { on = omega arith; within = h; same = λ base. refl }

module _ {t : List ℕ} {j i : ℕ} (v : Seeks t j i) where
  pub seeks-none : count t ≤ i → Child t j i
  seeks-none h = record { on = v.on; within = v.within; depth = λ g. absurd (omega arith); same = v.same }

  pub seeks-here : depth_at t i ≡ depth_at t 0 + 1 → Child t j i
  seeks-here d = record { on = v.on; within = v.within; depth = λ g. d; same = v.same }

  pub seeks-on : i < count t → depth_at t 0 + 1 < depth_at t i → Seeks t j (i + 1)
  unfolding children
  seeks-on h d =
      record {
        on = omega (arith, v.on);
        within = omega arith;
        same = λ base. v.same base ∙ siblings-skip t base (depth_at t 0 + 1) i h d;
      }

  pub seeks-stop : i < count t → depth_at t i < depth_at t 0 + 1 → Child t j (count t)
  unfolding children
  seeks-stop h d =
      record {
        on = omega (arith, v.on);
        within = omega arith;
        depth = λ g. absurd (omega arith);
        same = λ base. v.same base ∙ siblings-stop t base (depth_at t 0 + 1) i h d ∙ sym (siblings-end t base (depth_at t 0 + 1) (count t) (omega arith));
      }
