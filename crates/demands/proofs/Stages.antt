-- The verdict on a question, stage by stage: 1 to 6 and 12, with 10 after 2, then 8, then 7.
--     staged                          that verdict
--     staged-means, staged-refused    it is a refusal exactly when its condition holds and none before it does, and none where none holds
-- Assumes nothing.
use Prim.Native.Nat.{ℕ, ◌+◌, ◌*◌, ◌≤◌, ◌<◌}
use mathlib.Core.Path.{◌≡◌, refl, sym, ◌∙◌}
use mathlib.Core.Bool.{Bool, true, false, cond, not}
use mathlib.Core.List.{List, [], ◌∷◌, ◌++◌}
use mathlib.Core.Logic.{◌⊎◌, inl, inr, ⊎_elim}
use native.Mathlib.Omega.{arith}
use borrow.Author.Tests.{lt-ltb, le-leb, ltb-true, ltb-false, leb-true, not-false}
use lib.ListN.{length}
use lib.Dec.{ltb}
use Rattle.lent.proofs.Verdicts.{one-refusal}
use Rattle.std.specs.Prelude.{Ok, Err}
use Rattle.lent.specs.declared.refusal.Condition.TheVariants.{NoRoom, NoRoot, BadOffsets as A-offsets}
use Rattle.lent.specs.declared.refusal.Refusal.{Refusal}
use Rattle.records.specs.Kinds.{is_node, expression}
use Rattle.records.specs.Table.{count, kind_at}
use Rattle.lent.specs.Verdicts.{Rule, first, Verdict, refused, number_of, IsRefused}
use Rattle.conditions.specs.Conditions.{bad_offsets, no_root, no_such_record}
use Rattle.table.specs.Rules.{verdict}
use Rattle.table.specs.Exactly.{BadOffsets, Broken, broken-1, broken-2, broken-3, broken-4, broken-5, broken-12, broken-6, rank, place, Least}
use Rattle.lent.proofs.Cases.{both}
use Rattle.table.proofs.Exactly.{clash, bad-offsets, refused-exactly, admitted-exactly}
use Rattle.demands.specs.Questions.{Asked, Said, number, Named, no_one, a-root, a-record, Matter, answer_of, said_bytes}
use Rattle.demands.specs.Demand1.{NoNode, Missing, Holds, of-table, of-offsets, of-name, of_room, past, place_in, First}
use Rattle.demands.proofs.Offsets.{past-on, past_back, past-free, past-over, past-other, whole-offsets, amid, early-place, late-place}

-- ---- the verdict on a question

-- this verdict, and where it admits the next
unfoldable pub after : Verdict → Verdict → Verdict
after (Ok tt) w = w
after (Err r) w = Err r

pub first-after : (rs more : List Rule) → first (rs ++ more) ≡ after (first rs) (first more)
unfolding after
first-after [] more = refl
first-after (r ∷ rs) more = go r.broken (first-after rs more)
  where
    go : (b : Bool) → first (rs ++ more) ≡ after (first rs) (first more)
        → cond b (refused r.condition r.detail) (first (rs ++ more)) ≡ after (cond b (refused r.condition r.detail) (first rs)) (first more)
    go true ih = refl
    go false ih = ih

no_node : (t : List ℕ) (i : ℕ) → no_root t i ≡ true → NoNode t i
no_node t i e h k = clash (rw (lt-ltb i (count t) h, le-leb (kind_at t i) expression k)) e

pub a-node : (t : List ℕ) (i : ℕ) → no_root t i ≡ false → NoNode t i → ⊥
a-node t i e w =
    let b = both (ltb i (count t)) (is_node (kind_at t i)) (not-false _ e) in
    w (ltb-true i (count t) b.0) (leb-true (kind_at t i) expression b.1)

not_in : (t : List ℕ) (i : ℕ) → no_such_record t i ≡ true → count t ≤ i
not_in t i e = ltb-false i (count t) (not-true _ e)
  where
    not-true : (b : Bool) → not b ≡ true → b ≡ false
    not-true true x = sym x
    not-true false x = refl

is-in : (t : List ℕ) (i : ℕ) → no_such_record t i ≡ false → count t ≤ i → ⊥
is-in t i e h = omega (arith, ltb-true i (count t) (not-false _ e))

-- 8
unfoldable pub rooted : List ℕ → Named → Verdict
rooted t no_one = Ok tt
rooted t (a-root i) = cond (no_root t i) (refused NoRoot 0) (Ok tt)
rooted t (a-record i) = cond (no_such_record t i) (refused NoRoot 0) (Ok tt)

-- 7
unfoldable pub roomy : Said → List ℕ → Verdict
roomy s out = cond (ltb (length out) (length (said_bytes s))) (refused NoRoom (answer_of s)) (Ok tt)

unfoldable pub staged : Asked → Matter → Verdict
staged a m = after (amid (bad_offsets m.offsets) (verdict a.table (length a.source) m.message)) (after (rooted a.table m.names) (roomy m.said a.out))

module _ (a : Asked) (m : Matter) where
  abbrev pub t : List ℕ
  t = a.table

  abbrev pub n : ℕ
  n = length a.source

  abbrev at : ℕ → ℕ → ℕ
  at = place_in (count t)

  -- ---- the places

  at-is : (k d : ℕ) → Broken t n m.message k d → at k d ≡ past (place k d)
  unfolding place_in
  at-is k d (broken-1 e z b) = rw e
  at-is k d (broken-2 e z b) = rw e
  at-is k d (broken-3 e h b) = rw e
  at-is k d (broken-4 e h b) = rw e
  at-is k d (broken-5 e h b) = rw e
  at-is k d (broken-12 e h b) = rw e
  at-is k d (broken-6 e h b) = rw e

  place-most : (k d : ℕ) → Broken t n m.message k d → place k d ≤ 5 * count t + 2
  unfolding place rank
  place-most k d (broken-1 e z b) = rw e (omega arith)
  place-most k d (broken-2 e z b) = rw e (omega arith)
  place-most k d (broken-3 e h b) = rw e (omega arith)
  place-most k d (broken-4 e h b) = rw e (omega arith)
  place-most k d (broken-5 e h b) = rw e (omega arith)
  place-most k d (broken-12 e h b) = rw e (omega arith)
  place-most k d (broken-6 e h b) = rw e (omega arith)

  at_table : (k d : ℕ) → Broken t n m.message k d → (at k d ≡ past (place k d)) × (at k d ≤ 5 * count t + 3)
  at_table k d b = (at-is k d b, omega (arith, at-is k d b, past-over (place k d), place-most k d b))

  at-offsets : (k d : ℕ) → k ≡ 10 → at k d ≡ 3
  unfolding place_in
  at-offsets k d e = rw e

  at-root : (k d : ℕ) → k ≡ 8 → at k d ≡ 5 * count t + 4
  unfolding place_in
  at-root k d e = rw e

  at_room : (k d : ℕ) → k ≡ 7 → at k d ≡ 5 * count t + 5
  unfolding place_in
  at_room k d e = rw e

  pub numbers : (k d : ℕ) → Holds a m k d → (1 ≤ k) × (k ≤ 12)
  numbers k d (of-table (broken-1 e z b)) = omega arith
  numbers k d (of-table (broken-2 e z b)) = omega arith
  numbers k d (of-table (broken-3 e h b)) = omega arith
  numbers k d (of-table (broken-4 e h b)) = omega arith
  numbers k d (of-table (broken-5 e h b)) = omega arith
  numbers k d (of-table (broken-12 e h b)) = omega arith
  numbers k d (of-table (broken-6 e h b)) = omega arith
  numbers k d (of-offsets e z b) = omega arith
  numbers k d (of-name e z b) = omega arith
  numbers k d (of_room e z h) = omega arith

  -- ---- a refusal of each stage

  abbrev pub Nothing : Type 0
  Nothing = (k d : ℕ) → Broken t n m.message k d → ⊥

  abbrev pub Whole : Type 0
  Whole = BadOffsets m.offsets → ⊥

  by-table : (k d : ℕ) → Whole ⊎ (k < 3) → Least t n m.message k d → First a m k d
  by-table k d w l = record { holds = of-table l.holds; none_before = go }
    where
      go : (k' d' : ℕ) → Holds a m k' d' → at k d ≤ at k' d'
      go k' d' (of-table b) = rw ((at_table k d l.holds).0, (at_table k' d' b).0) (past-on _ _ (l.none_before k' d' b))
      go k' d' (of-offsets e z b) =
          ⊎_elim
          (λ f. absurd (f b))
          (λ h. rw (at-offsets k' d' e, (at_table k d l.holds).0, early-place k d h) (omega arith))
          w
      go k' d' (of-name e z b) = rw (at-root k' d' e) (omega (arith, (at_table k d l.holds).1))
      go k' d' (of_room e z h) = rw (at_room k' d' e) (omega (arith, (at_table k d l.holds).1))

  by-offsets : BadOffsets m.offsets → ((k d : ℕ) → Broken t n m.message k d → 3 ≤ place k d) → First a m 10 0
  by-offsets w late = record { holds = of-offsets refl refl w; none_before = go }
    where
      go : (k' d' : ℕ) → Holds a m k' d' → at 10 0 ≤ at k' d'
      go k' d' (of-table b) = rw (at-offsets 10 0 refl, (at_table k' d' b).0) (past-free _ (late k' d' b))
      go k' d' (of-offsets e z b) = rw (at-offsets 10 0 refl, at-offsets k' d' e) (omega arith)
      go k' d' (of-name e z b) = rw (at-offsets 10 0 refl, at-root k' d' e) (omega arith)
      go k' d' (of_room e z h) = rw (at-offsets 10 0 refl, at_room k' d' e) (omega arith)

  by_name : Nothing → Whole → Missing t m.names → First a m 8 0
  by_name free w b = record { holds = of-name refl refl b; none_before = go }
    where
      go : (k' d' : ℕ) → Holds a m k' d' → at 8 0 ≤ at k' d'
      go k' d' (of-table x) = absurd (free k' d' x)
      go k' d' (of-offsets e z x) = absurd (w x)
      go k' d' (of-name e z x) = rw (at-root 8 0 refl, at-root k' d' e) (omega arith)
      go k' d' (of_room e z h) = rw (at-root 8 0 refl, at_room k' d' e) (omega arith)

  abbrev pub There : Type 0
  There = Missing t m.names → ⊥

  by-room : Nothing → Whole → There → length a.out < length (said_bytes m.said) → First a m 7 (answer_of m.said)
  by-room free w r h = record { holds = of_room refl refl h; none_before = go }
    where
      go : (k' d' : ℕ) → Holds a m k' d' → at 7 (answer_of m.said) ≤ at k' d'
      go k' d' (of-table x) = absurd (free k' d' x)
      go k' d' (of-offsets e z x) = absurd (w x)
      go k' d' (of-name e z x) = absurd (r x)
      go k' d' (of_room e z g) = rw (at_room 7 (answer_of m.said) refl, at_room k' d' e) (omega arith)

  -- ---- from the verdict

  pub record Free : Type 0 where
    pub none : Nothing
    pub offsets : Whole
    pub root : There
    pub room : length (said_bytes m.said) ≤ length a.out

  -- what a verdict means
  unfoldable pub Means : Verdict → Type 0
  Means (Ok tt) = Free
  Means (Err r) = First a m (number_of r.condition) r.detail

  -- 8 and 7
  abbrev later : Verdict
  later = after (rooted t m.names) (roomy m.said a.out)

  pub staged-means : Means (staged a m)
  unfolding staged after amid Means roomy rooted Missing
  staged-means = go (bad_offsets m.offsets) refl (verdict t n m.message) refl
    where
      on_room : Nothing → Whole → There → (b : Bool) → ltb (length a.out) (length (said_bytes m.said)) ≡ b → Means (cond b (refused NoRoom (answer_of m.said)) (Ok tt))
      on_room free w r true e = by-room free w r (ltb-true (length a.out) (length (said_bytes m.said)) e)
      on_room free w r false e = record { none = free; offsets = w; root = r; room = ltb-false (length a.out) (length (said_bytes m.said)) e }

      then-room : Nothing → Whole → There → Means (roomy m.said a.out)
      then-room free w r = on_room free w r (ltb (length a.out) (length (said_bytes m.said))) refl

      on-name : Nothing → Whole → (b : Bool) → (b ≡ true → Missing t m.names) → (b ≡ false → There) → Means (after (cond b (refused NoRoot 0) (Ok tt)) (roomy m.said a.out))
      on-name free w true x y = by_name free w (x refl)
      on-name free w false x y = then-room free w (y refl)

      then-name : Nothing → Whole → (x : Named) → m.names ≡ x → Means (after (rooted t x) (roomy m.said a.out))
      then-name free w no_one r = then-room free w (λ q. rw r at q)
      then-name free w (a-root i) r = on-name free w (no_root t i) (λ e. rw r (no_node t i e)) (λ e q. a-node t i e (rw r at q))
      then-name free w (a-record i) r = on-name free w (no_such_record t i) (λ e. rw r (not_in t i e)) (λ e q. is-in t i e (rw r at q))

      go : (b : Bool) → bad_offsets m.offsets ≡ b → (v : Verdict) → verdict t n m.message ≡ v → Means (after (amid b v) later)
      go false f (Ok tt) e = then-name ((admitted-exactly t n m.message).0 e) (whole-offsets m.offsets f) m.names refl
      go false f (Err r) e = by-table _ _ (inl (whole-offsets m.offsets f)) ((refused-exactly t n m.message _ _).0 (rw e (refl, refl)))
      go true f (Ok tt) e = by-offsets ((bad-offsets m.offsets).0 f) (λ k d x. absurd ((admitted-exactly t n m.message).0 e k d x))
      go true f (Err r) e = among (ltb (number_of r.condition) 3) refl ((refused-exactly t n m.message _ _).0 (rw e (refl, refl)))
        where
          among : (c : Bool) → ltb (number_of r.condition) 3 ≡ c → Least t n m.message (number_of r.condition) r.detail → Means (after (cond c (Err r) (refused A-offsets 0)) later)
          among true h l = by-table _ _ (inr (ltb-true (number_of r.condition) 3 h)) l
          among false h l =
              by-offsets ((bad-offsets m.offsets).0 f)
              (λ k' d' x. omega (arith, l.none_before k' d' x, late-place _ _ l.holds (ltb-false (number_of r.condition) 3 h)))

  -- ---- and back

  pub free-none : Free → (k d : ℕ) → Holds a m k d → ⊥
  free-none f k d (of-table b) = f.none k d b
  free-none f k d (of-offsets e z b) = f.offsets b
  free-none f k d (of-name e z b) = f.root b
  free-none f k d (of_room e z h) = omega (arith, f.room)

  least-of : (k d : ℕ) → First a m k d → Broken t n m.message k d → Least t n m.message k d
  least-of k d f b =
      record { holds = b; none_before = λ k' d' b'. past_back _ _ (rw ((at_table k d b).0, (at_table k' d' b').0) at (f.none_before k' d' (of-table b'))) }

  same_first : (k d k' d' : ℕ) → First a m k d → First a m k' d' → (k ≡ k') × (d ≡ d')
  same_first k d k' d' f g = go f.holds g.holds (omega (arith, f.none_before k' d' g.holds, g.none_before k d f.holds))
    where
      go : Holds a m k d → Holds a m k' d' → at k d ≡ at k' d' → (k ≡ k') × (d ≡ d')
      go (of-table b) (of-table c) p =
          one-refusal (verdict t n m.message) ((refused-exactly t n m.message k d).1 (least-of k d f b)) ((refused-exactly t n m.message k' d').1 (least-of k' d' g c))
      go (of-table b) (of-offsets e z x) p = absurd (past-other _ (sym (at_table k d b).0 ∙ p ∙ at-offsets k' d' e))
      go (of-table b) (of-name e z x) p = absurd (omega (arith, (at_table k d b).1, at-root k' d' e))
      go (of-table b) (of_room e z h) p = absurd (omega (arith, (at_table k d b).1, at_room k' d' e))
      go (of-offsets e z x) (of-table c) p = absurd (past-other _ (sym (at_table k' d' c).0 ∙ sym p ∙ at-offsets k d e))
      go (of-offsets e z x) (of-offsets u v y) p = (omega arith, omega arith)
      go (of-offsets e z x) (of-name u v y) p = absurd (omega (arith, at-offsets k d e, at-root k' d' u))
      go (of-offsets e z x) (of_room u v h) p = absurd (omega (arith, at-offsets k d e, at_room k' d' u))
      go (of-name e z x) (of-table c) p = absurd (omega (arith, (at_table k' d' c).1, at-root k d e))
      go (of-name e z x) (of-offsets u v y) p = absurd (omega (arith, at-root k d e, at-offsets k' d' u))
      go (of-name e z x) (of-name u v y) p = (omega arith, omega arith)
      go (of-name e z x) (of_room u v h) p = absurd (omega (arith, at-root k d e, at_room k' d' u))
      go (of_room e z h) (of-table c) p = absurd (omega (arith, (at_table k' d' c).1, at_room k d e))
      go (of_room e z h) (of-offsets u v y) p = absurd (omega (arith, at_room k d e, at-offsets k' d' u))
      go (of_room e z h) (of-name u v y) p = absurd (omega (arith, at_room k d e, at-root k' d' u))
      go (of_room e z h) (of_room u v g) p = (omega arith, omega arith)

  pub staged-refused : (k d : ℕ) → First a m k d → IsRefused (staged a m) k d
  unfolding Means
  staged-refused k d f = go (staged a m) staged-means
    where
      go : (v : Verdict) → Means v → IsRefused v k d
      go (Ok tt) w = free-none w k d f.holds
      go (Err r) w = same_first (number_of r.condition) r.detail k d w f
