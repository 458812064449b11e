-- A refusal with number k and detail d is given exactly when condition k holds with d and none before it in the order does, and a table
-- is admitted exactly when none holds:
--     refused-exactly, admitted-exactly
-- and each condition in plain words:
--     bad-length, too-long, bad-offsets, unlisted-kind, misplaced-first, misplaced-later, too-deep, wrong-parent, bad-span
-- Assumes nothing.
use Prim.Native.Nat.{ℕ, zero, suc, ◌+◌, ◌*◌, ◌/◌, ◌%◌, ◌≤◌, ◌<◌}
use mathlib.Core.Path.{◌≡◌, refl, sym, ap, ◌∙◌}
use mathlib.Core.Bool.{Bool, true, false, cond, not, ◌&&◌, ◌||◌}
use mathlib.Core.List.{List}
use mathlib.Core.Logic.{◌⊎◌, inl, inr, ⊎_elim, ◌↔◌}
use native.Mathlib.Omega.{arith}
use native.Mathlib.Numerals.{add-one}
use borrow.Author.Tests.{lt-ltb, le-ltb, le-leb, eq-eqb, ltb-true, leb-true, eqb-true}
use lib.ListN.{length}
use lib.Dec.{ltb, leb, eqb}
use Rattle.std.specs.Prelude.{Ok, Err}
use Rattle.lent.specs.declared.refusal.Condition.TheVariants.{UnlistedKind, Misplaced, BadLength as A-length, TooLong as A-limit, TooDeep as A-depth, WrongParent as A-parent, BadSpan as A-span}
use Rattle.records.specs.Kinds.{is_node, is_token, expression, other_token, arrow}
use Rattle.records.specs.Table.{record_bytes, count, kind_at, depth_at, start_at, end_at, parent_at}
use Rattle.conditions.specs.Conditions.{most_records, most_depth, most_source, most_message, most_offsets, offset_bytes, bad_length, too_long, bad_offsets, unlisted, misplaced, too_deep, nearest, wrong_parent, bad_span, last_end}
use Rattle.refusals.specs.ByRecord.{rules_from}
use Rattle.table.specs.Rules.{verdict}
use Rattle.lent.specs.Verdicts.{Rule, refused, first, Verdict, number_of, IsRefused}
use Rattle.table.specs.Exactly.{Broken, broken-1, broken-2, broken-3, broken-4, broken-5, broken-12, broken-6, rank, place, Least, Token, BadLength, TooLong, BadOffsets, Unlisted, MisplacedFirst, MisplacedLater, TooDeep, NearestBefore, NoneBefore, WrongParent, EndsAfter, BadSpan}
use Rattle.lent.proofs.Cases.{lt-or-le}

pub clash : {b : Bool} → b ≡ false → b ≡ true → ⊥
clash p q = let z : ◌≡◌ {A = ℕ} 0 1 = cc in omega arith

-- ---- the place of each condition among those of a record

module _ {k : ℕ} where
  of-3 : k ≡ 3 → rank k ≡ 3
  unfolding rank
  of-3 e = rw e

  of-4 : k ≡ 4 → rank k ≡ 4
  unfolding rank
  of-4 e = rw e

  of-5 : k ≡ 5 → rank k ≡ 5
  unfolding rank
  of-5 e = rw e

  of-12 : k ≡ 12 → rank k ≡ 6
  unfolding rank
  of-12 e = rw e

  of-6 : k ≡ 6 → rank k ≡ 7
  unfolding rank
  of-6 e = rw e

-- the condition at a place
abbrev at-rank : ℕ → ℕ
at-rank r = cond (eqb r 6) 12 (cond (eqb r 7) 6 r)

module _ (t : List ℕ) (n m : ℕ) where
  -- a condition of a record is at one of five places, and at no other's
  ranked : (k d : ℕ) → Broken t n m k d → 3 ≤ k → ((3 ≤ rank k) × (rank k ≤ 7)) × (k ≡ at-rank (rank k))
  ranked k d (broken-1 e q b) l = absurd (omega arith)
  ranked k d (broken-2 e q b) l = absurd (omega arith)
  ranked k d (broken-3 e q b) l = (omega (arith, of-3 e), rw (of-3 e) e)
  ranked k d (broken-4 e q b) l = (omega (arith, of-4 e), rw (of-4 e) e)
  ranked k d (broken-5 e q b) l = (omega (arith, of-5 e), rw (of-5 e) e)
  ranked k d (broken-12 e q b) l = (omega (arith, of-12 e), rw (of-12 e) e)
  ranked k d (broken-6 e q b) l = (omega (arith, of-6 e), rw (of-6 e) e)

  -- ---- the rules of a record

  -- the rules of record i at a place below j are kept
  record Clear (i j : ℕ) : Type 0 where
    kept-3 : 3 < j → unlisted t i ≡ false
    kept-4 : 4 < j → misplaced t i ≡ false
    kept-5 : 5 < j → too_deep t i ≡ false
    kept-12 : 6 < j → wrong_parent t i ≡ false
    kept-6 : 7 < j → bad_span t n i ≡ false

  clear : (i j k : ℕ) → Clear i j → 3 ≤ k → rank k < j → Broken t n m k i → ⊥
  clear i j k c l h (broken-1 e d b) = omega arith
  clear i j k c l h (broken-2 e d b) = omega arith
  clear i j k c l h (broken-3 e d b) = clash (c.kept-3 (omega (arith, of-3 e))) b
  clear i j k c l h (broken-4 e d b) = clash (c.kept-4 (omega (arith, of-4 e))) b
  clear i j k c l h (broken-5 e d b) = clash (c.kept-5 (omega (arith, of-5 e))) b
  clear i j k c l h (broken-12 e d b) = clash (c.kept-12 (omega (arith, of-12 e))) b
  clear i j k c l h (broken-6 e d b) = clash (c.kept-6 (omega (arith, of-6 e))) b

  -- what is broken from record i on stands no earlier than place j there
  beyond : (i j : ℕ) → Clear i j → j ≤ 8 → (k d : ℕ) → Broken t n m k d → 3 ≤ k → i ≤ d → 5 * i + j ≤ 5 * d + rank k
  beyond i j c g k d b l h =
      ⊎_elim
      (λ p. omega (arith, (ranked k d b l).0))
      (λ p.
      let e : d ≡ i = omega arith in
      ⊎_elim (λ q. absurd (clear i j k c l q (rw e at b))) (λ q. omega arith) (lt-or-le (rank k) j))
      (lt-or-le i d)

  -- ---- the rules from record i on

  record From (i k d : ℕ) : Type 0 where
    here : Broken t n m k d
    late : 3 ≤ k
    on : i ≤ d
    least : (k' d' : ℕ) → Broken t n m k' d' → 3 ≤ k' → i ≤ d' → 5 * d + rank k ≤ 5 * d' + rank k'

  abbrev Nothing : ℕ → Type 0
  Nothing i = (k d : ℕ) → Broken t n m k d → 3 ≤ k → i ≤ d → ⊥

  at-rule : (i j k d : ℕ) → (j ≡ k) × (i ≡ d) → Broken t n m j i → 3 ≤ j → Clear i (rank j) → From i k d
  at-rule i j k d e b l c =
      let p : j ≡ k = e.0 in
      let q : i ≡ d = e.1 in
      record {
        here = rw (p, q) at b;
        late = omega arith;
        on = omega arith;
        least = λ k' d' b' l' h. rw (← p, ← q) (beyond i (rank j) c (omega (arith, (ranked j i b l).0)) k' d' b' l' h);
      }

  next : (i : ℕ) → Clear i 8 → (k d : ℕ) → From (suc i) k d → From i k d
  next i c k d f =
      record {
        here = f.here;
        late = f.late;
        on = omega (arith, f.on);
        least = λ k' d' b' l' h. f.least k' d' b' l' (omega (arith, beyond i 8 c (omega arith) k' d' b' l' h, (ranked k' d' b' l').0));
      }

  -- the rules of record i, one after the other, before what follows
  module _ (i : ℕ) (h : i < count t) (more : List Rule) where
    abbrev told : Bool → Bool → Bool → Bool → Bool → Verdict
    told p q r x s =
        cond p (refused UnlistedKind i) (cond q (refused Misplaced i) (cond r (refused A-depth i) (cond x (refused A-parent i) (cond s (refused A-span i) (first more)))))

    -- what is known where the rules before place j are kept
    up_to : (j : ℕ) → (3 < j → unlisted t i ≡ false) → (4 < j → misplaced t i ≡ false) → (5 < j → too_deep t i ≡ false)
        → (6 < j → wrong_parent t i ≡ false) → (7 < j → bad_span t n i ≡ false) → Clear i j
    up_to j a b c x e = record { kept-3 = a; kept-4 = b; kept-5 = c; kept-12 = x; kept-6 = e }

    record-refused : (k d : ℕ) → (p q r x s : Bool) → unlisted t i ≡ p → misplaced t i ≡ q → too_deep t i ≡ r → wrong_parent t i ≡ x → bad_span t n i ≡ s
        → IsRefused (told p q r x s) k d → (Clear i 8 → IsRefused (first more) k d → From i k d) → From i k d
    record-refused k d true q r x s a b c f e v on =
        let z = of-3 refl in
        at-rule i 3 k d v (broken-3 refl h a) (omega arith)
        (up_to _ (λ y. absurd (omega arith)) (λ y. absurd (omega arith)) (λ y. absurd (omega arith)) (λ y. absurd (omega arith)) (λ y. absurd (omega arith)))
    record-refused k d false true r x s a b c f e v on =
        let z = of-4 refl in
        at-rule i 4 k d v (broken-4 refl h b) (omega arith)
        (up_to _ (λ y. a) (λ y. absurd (omega arith)) (λ y. absurd (omega arith)) (λ y. absurd (omega arith)) (λ y. absurd (omega arith)))
    record-refused k d false false true x s a b c f e v on =
        let z = of-5 refl in
        at-rule i 5 k d v (broken-5 refl h c) (omega arith)
        (up_to _ (λ y. a) (λ y. b) (λ y. absurd (omega arith)) (λ y. absurd (omega arith)) (λ y. absurd (omega arith)))
    record-refused k d false false false true s a b c f e v on =
        let z = of-12 refl in
        at-rule i 12 k d v (broken-12 refl h f) (omega arith)
        (up_to _ (λ y. a) (λ y. b) (λ y. c) (λ y. absurd (omega arith)) (λ y. absurd (omega arith)))
    record-refused k d false false false false true a b c f e v on =
        let z = of-6 refl in
        at-rule i 6 k d v (broken-6 refl h e) (omega arith)
        (up_to _ (λ y. a) (λ y. b) (λ y. c) (λ y. f) (λ y. absurd (omega arith)))
    record-refused k d false false false false false a b c f e v on = on (up_to 8 (λ y. a) (λ y. b) (λ y. c) (λ y. f) (λ y. e)) v

    record-admitted : (p q r x s : Bool) → unlisted t i ≡ p → misplaced t i ≡ q → too_deep t i ≡ r → wrong_parent t i ≡ x → bad_span t n i ≡ s
        → told p q r x s ≡ Ok tt → Clear i 8 × (first more ≡ Ok tt)
    record-admitted true q r x s a b c f e v = absurd (let z : ◌≡◌ {A = ℕ} 0 1 = cc in omega arith)
    record-admitted false true r x s a b c f e v = absurd (let z : ◌≡◌ {A = ℕ} 0 1 = cc in omega arith)
    record-admitted false false true x s a b c f e v = absurd (let z : ◌≡◌ {A = ℕ} 0 1 = cc in omega arith)
    record-admitted false false false true s a b c f e v = absurd (let z : ◌≡◌ {A = ℕ} 0 1 = cc in omega arith)
    record-admitted false false false false true a b c f e v = absurd (let z : ◌≡◌ {A = ℕ} 0 1 = cc in omega arith)
    record-admitted false false false false false a b c f e v = (up_to 8 (λ y. a) (λ y. b) (λ y. c) (λ y. f) (λ y. e), v)

  from-refused : (c i : ℕ) → i + c ≡ count t → (k d : ℕ) → IsRefused (first (rules_from t n i c)) k d → From i k d
  unfolding rules_from
  from-refused zero i z k d v = absurd v
  from-refused (suc c) i z k d v =
      record-refused i (omega arith) (rules_from t n (suc i) c) k d (unlisted t i) (misplaced t i) (too_deep t i) (wrong_parent t i) (bad_span t n i)
      refl refl refl refl refl v (λ l w. next i l k d (from-refused c (suc i) (omega arith) k d w))

  -- what is broken is broken in the table
  inside : (k d : ℕ) → Broken t n m k d → 3 ≤ k → d < count t
  inside k d (broken-1 e q b) l = absurd (omega arith)
  inside k d (broken-2 e q b) l = absurd (omega arith)
  inside k d (broken-3 e q b) l = q
  inside k d (broken-4 e q b) l = q
  inside k d (broken-5 e q b) l = q
  inside k d (broken-12 e q b) l = q
  inside k d (broken-6 e q b) l = q

  from-admitted : (c i : ℕ) → i + c ≡ count t → first (rules_from t n i c) ≡ Ok tt → Nothing i
  unfolding rules_from
  from-admitted zero i z v k d b l h = omega (arith, inside k d b l)
  from-admitted (suc c) i z v k d b l h =
      let w =
      record-admitted i (omega arith) (rules_from t n (suc i) c) (unlisted t i) (misplaced t i) (too_deep t i) (wrong_parent t i) (bad_span t n i)
      refl refl refl refl refl v in
      from-admitted c (suc i) (omega arith) w.1 k d b l (omega (arith, beyond i 8 w.0 (omega arith) k d b l h, (ranked k d b l).0))

  -- ---- all rules

  place-early : (k d : ℕ) → k < 3 → place k d ≡ k
  unfolding place
  place-early k d h = rw (lt-ltb k 3 h)

  place-late : (k d : ℕ) → 3 ≤ k → place k d ≡ 5 * d + rank k
  unfolding place
  place-late k d h = rw (le-ltb k 3 h)

  -- a record-by-record refusal as a refusal of the whole
  from-least : (k d : ℕ) → bad_length t ≡ false → too_long n m ≡ false → From 0 k d → Least t n m k d
  from-least k d p q f = record { holds = f.here; none_before = λ k' d' b. rw (place-late k d f.late) (go k' d' b) }
    where
      later : (k' d' : ℕ) → Broken t n m k' d' → 3 ≤ k' → 5 * d + rank k ≤ place k' d'
      later k' d' b l = rw (place-late k' d' l) (f.least k' d' b l (omega arith))

      go : (k' d' : ℕ) → Broken t n m k' d' → 5 * d + rank k ≤ place k' d'
      go k' d' (broken-1 e z b) = absurd (clash p b)
      go k' d' (broken-2 e z b) = absurd (clash q b)
      go k' d' (broken-3 e z b) = later k' d' (broken-3 e z b) (omega arith)
      go k' d' (broken-4 e z b) = later k' d' (broken-4 e z b) (omega arith)
      go k' d' (broken-5 e z b) = later k' d' (broken-5 e z b) (omega arith)
      go k' d' (broken-12 e z b) = later k' d' (broken-12 e z b) (omega arith)
      go k' d' (broken-6 e z b) = later k' d' (broken-6 e z b) (omega arith)

  -- a number below 3 has the detail 0, and is 1 or 2
  early : (k d : ℕ) → Broken t n m k d → k < 3 → (d ≡ 0) × (1 ≤ k)
  early k d (broken-1 e q b) h = (q, omega arith)
  early k d (broken-2 e q b) h = (q, omega arith)
  early k d (broken-3 e q b) h = absurd (omega arith)
  early k d (broken-4 e q b) h = absurd (omega arith)
  early k d (broken-5 e q b) h = absurd (omega arith)
  early k d (broken-12 e q b) h = absurd (omega arith)
  early k d (broken-6 e q b) h = absurd (omega arith)

  place-first : (k d : ℕ) → Broken t n m k d → 1 ≤ place k d
  place-first k d b = ⊎_elim (λ h. rw (place-early k d h) (early k d b h).1) (λ h. rw (place-late k d h) (omega (arith, (ranked k d b h).0))) (lt-or-le k 3)

  place-second : bad_length t ≡ false → (k d : ℕ) → Broken t n m k d → 2 ≤ place k d
  place-second p k d (broken-1 e q b) = absurd (clash p b)
  place-second p k d (broken-2 e q b) = rw (place-early k d (omega arith)) (omega arith)
  place-second p k d (broken-3 e q b) = rw (place-late k d (omega arith)) (omega (arith, of-3 e))
  place-second p k d (broken-4 e q b) = rw (place-late k d (omega arith)) (omega (arith, of-4 e))
  place-second p k d (broken-5 e q b) = rw (place-late k d (omega arith)) (omega (arith, of-5 e))
  place-second p k d (broken-12 e q b) = rw (place-late k d (omega arith)) (omega (arith, of-12 e))
  place-second p k d (broken-6 e q b) = rw (place-late k d (omega arith)) (omega (arith, of-6 e))

  -- the first two rules before what follows
  refused→ : (k d : ℕ) → IsRefused (verdict t n m) k d → Least t n m k d
  unfolding verdict
  refused→ k d = go (bad_length t) (too_long n m) refl refl
    where
      go : (p q : Bool) → bad_length t ≡ p → too_long n m ≡ q
          → IsRefused (cond p (refused A-length 0) (cond q (refused A-limit 0) (first (rules_from t n 0 (count t))))) k d → Least t n m k d
      go true q a b v =
          let e : 1 ≡ k = v.0 in
          let z : 0 ≡ d = v.1 in
          rw (← e, ← z) (record { holds = broken-1 refl refl a; none_before = λ k' d' x. rw (place-early 1 0 (omega arith)) (place-first k' d' x) })
      go false true a b v =
          let e : 2 ≡ k = v.0 in
          let z : 0 ≡ d = v.1 in
          rw (← e, ← z) (record { holds = broken-2 refl refl b; none_before = λ k' d' x. rw (place-early 2 0 (omega arith)) (place-second a k' d' x) })
      go false false a b v = from-least k d a b (from-refused (count t) 0 (omega arith) k d v)

  admitted→ : verdict t n m ≡ Ok tt → (k d : ℕ) → Broken t n m k d → ⊥
  unfolding verdict
  admitted→ = go (bad_length t) (too_long n m) refl refl
    where
      go : (p q : Bool) → bad_length t ≡ p → too_long n m ≡ q
          → cond p (refused A-length 0) (cond q (refused A-limit 0) (first (rules_from t n 0 (count t)))) ≡ Ok tt → (k d : ℕ) → Broken t n m k d → ⊥
      go true q a b v k d x = let z : ◌≡◌ {A = ℕ} 0 1 = cc in omega arith
      go false true a b v k d x = let z : ◌≡◌ {A = ℕ} 0 1 = cc in omega arith
      go false false a b v k d (broken-1 e z x) = clash a x
      go false false a b v k d (broken-2 e z x) = clash b x
      go false false a b v k d (broken-3 e z x) = from-admitted (count t) 0 (omega arith) v k d (broken-3 e z x) (omega arith) (omega arith)
      go false false a b v k d (broken-4 e z x) = from-admitted (count t) 0 (omega arith) v k d (broken-4 e z x) (omega arith) (omega arith)
      go false false a b v k d (broken-5 e z x) = from-admitted (count t) 0 (omega arith) v k d (broken-5 e z x) (omega arith) (omega arith)
      go false false a b v k d (broken-12 e z x) = from-admitted (count t) 0 (omega arith) v k d (broken-12 e z x) (omega arith) (omega arith)
      go false false a b v k d (broken-6 e z x) = from-admitted (count t) 0 (omega arith) v k d (broken-6 e z x) (omega arith) (omega arith)

  same_place : (k d k' d' : ℕ) → Broken t n m k d → Broken t n m k' d' → place k d ≡ place k' d' → (k ≡ k') × (d ≡ d')
  same_place k d k' d' b b' e =
      ⊎_elim
      (λ h.
      ⊎_elim
      (λ g. (omega (arith, place-early k d h, place-early k' d' g), omega (arith, (early k d b h).0, (early k' d' b' g).0)))
      (λ g. absurd (omega (arith, place-early k d h, place-late k' d' g, (ranked k' d' b' g).0)))
      (lt-or-le k' 3))
      (λ h.
      ⊎_elim
      (λ g. absurd (omega (arith, place-late k d h, place-early k' d' g, (ranked k d b h).0)))
      (λ g.
      let x = ranked k d b h in
      let y = ranked k' d' b' g in
      let r : rank k ≡ rank k' = omega (arith, place-late k d h, place-late k' d' g, x.0, y.0) in
      (x.1 ∙ ap at-rank r ∙ sym y.1, omega (arith, place-late k d h, place-late k' d' g, x.0, y.0)))
      (lt-or-le k' 3))
      (lt-or-le k 3)

  refused← : (k d : ℕ) → Least t n m k d → IsRefused (verdict t n m) k d
  refused← k d l = go (verdict t n m) refl
    where
      go : (v : Verdict) → verdict t n m ≡ v → IsRefused v k d
      go (Ok tt) e = admitted→ e k d l.holds
      go (Err x) e =
          let r = refused→ (number_of x.condition) x.detail (rw e (refl, refl)) in
          same_place (number_of x.condition) x.detail k d r.holds l.holds
          (omega (arith, r.none_before k d l.holds, l.none_before (number_of x.condition) x.detail r.holds))

  admitted← : ((k d : ℕ) → Broken t n m k d → ⊥) → verdict t n m ≡ Ok tt
  admitted← h = go (verdict t n m) refl
    where
      go : (v : Verdict) → verdict t n m ≡ v → verdict t n m ≡ Ok tt
      go (Ok tt) e = e
      go (Err x) e = absurd (h (number_of x.condition) x.detail (refused→ (number_of x.condition) x.detail (rw e (refl, refl))).holds)

  -- THE THEOREM
  pub refused-exactly : (k d : ℕ) → IsRefused (verdict t n m) k d ↔ Least t n m k d
  refused-exactly k d = (refused→ k d, refused← k d)

  pub admitted-exactly : (verdict t n m ≡ Ok tt) ↔ ((k d : ℕ) → Broken t n m k d → ⊥)
  admitted-exactly = (admitted→, admitted←)

-- ---- each condition in plain words

-- a test that is one of two, both, or not
or-either : (a b : Bool) → (a || b) ≡ true → (a ≡ true) ⊎ (b ≡ true)
or-either true b e = inl refl
or-either false b e = inr e

or_left : (a b : Bool) → a ≡ true → (a || b) ≡ true
or_left true b e = refl
or_left false b e = cc

or_right : (a b : Bool) → b ≡ true → (a || b) ≡ true
or_right true b e = refl
or_right false b e = e

both : (a b : Bool) → (a && b) ≡ true → (a ≡ true) × (b ≡ true)
both true b e = (refl, e)
both false b e = absurd (clash refl e)

pub token→ : (k : ℕ) → is_token k ≡ true → Token k
token→ k e = let b = both (leb other_token k) _ e in (leb-true other_token k b.0, leb-true k arrow b.1)

pub token← : (k : ℕ) → Token k → is_token k ≡ true
token← k h = rw (le-leb other_token k h.0, le-leb k arrow h.1)

not_yes : (a : Bool) → (a ≡ true → ⊥) → not a ≡ true
not_yes true h = absurd (h refl)
not_yes false h = refl

yes-not : (a : Bool) → not a ≡ true → a ≡ true → ⊥
yes-not true e h = clash refl e
yes-not false e h = clash refl h

pub bad-length : (t : List ℕ) → (bad_length t ≡ true) ↔ BadLength t
bad-length t = (to, back)
  where
    to : bad_length t ≡ true → BadLength t
    to e =
        ⊎_elim
        (λ x.
        ⊎_elim
        (λ y. inl (eqb-true (length t) 0 y))
        (λ y. inr (inl (λ z. yes-not _ y (eq-eqb (length t % record_bytes) 0 z))))
        (or-either (eqb (length t) 0) (not (eqb (length t % record_bytes) 0)) x))
        (λ x. inr (inr (ltb-true most_records (count t) x)))
        (or-either (eqb (length t) 0 || not (eqb (length t % record_bytes) 0)) (ltb most_records (count t)) e)

    back : BadLength t → bad_length t ≡ true
    back (inl e) = or_left _ (ltb most_records (count t)) (or_left _ (not (eqb (length t % record_bytes) 0)) (eq-eqb (length t) 0 e))
    back (inr (inl e)) =
        or_left _ (ltb most_records (count t)) (or_right (eqb (length t) 0) _ (not_yes _ (λ y. e (eqb-true (length t % record_bytes) 0 y))))
    back (inr (inr e)) = or_right (eqb (length t) 0 || not (eqb (length t % record_bytes) 0)) _ (lt-ltb most_records (count t) e)

pub too-long : (n m : ℕ) → (too_long n m ≡ true) ↔ TooLong n m
too-long n m = (to, back)
  where
    to : too_long n m ≡ true → TooLong n m
    to e = ⊎_elim (λ x. inl (ltb-true most_source n x)) (λ x. inr (ltb-true most_message m x)) (or-either (ltb most_source n) (ltb most_message m) e)

    back : TooLong n m → too_long n m ≡ true
    back (inl h) = or_left _ (ltb most_message m) (lt-ltb most_source n h)
    back (inr h) = or_right (ltb most_source n) _ (lt-ltb most_message m h)

pub bad-offsets : (b : ℕ) → (bad_offsets b ≡ true) ↔ BadOffsets b
bad-offsets b = (to, back)
  where
    to : bad_offsets b ≡ true → BadOffsets b
    to e =
        ⊎_elim
        (λ x. inl (ltb-true most_offsets (b / offset_bytes) x))
        (λ x. inr (λ z. yes-not _ x (eq-eqb (b % offset_bytes) 0 z)))
        (or-either (ltb most_offsets (b / offset_bytes)) (not (eqb (b % offset_bytes) 0)) e)

    back : BadOffsets b → bad_offsets b ≡ true
    back (inl h) = or_left _ (not (eqb (b % offset_bytes) 0)) (lt-ltb most_offsets (b / offset_bytes) h)
    back (inr h) = or_right (ltb most_offsets (b / offset_bytes)) _ (not_yes _ (λ y. h (eqb-true (b % offset_bytes) 0 y)))

pub unlisted-kind : (t : List ℕ) (i : ℕ) → (unlisted t i ≡ true) ↔ Unlisted t i
unlisted-kind t i = (to, back)
  where
    to : unlisted t i ≡ true → Unlisted t i
    to e = (
      (λ h. yes-not _ e (or_left _ (is_token (kind_at t i)) (le-leb (kind_at t i) expression h))),
      (λ h. yes-not _ e (or_right (is_node (kind_at t i)) _ (token← (kind_at t i) h))),
    )

    back : Unlisted t i → unlisted t i ≡ true
    back h =
        not_yes _
        (λ e.
        ⊎_elim
        (λ x. h.0 (leb-true (kind_at t i) expression x))
        (λ x. h.1 (token→ (kind_at t i) x))
        (or-either (is_node (kind_at t i)) (is_token (kind_at t i)) e))

pub misplaced-first : (t : List ℕ) → (misplaced t 0 ≡ true) ↔ MisplacedFirst t
unfolding misplaced
misplaced-first t = (to, back)
  where
    to : misplaced t 0 ≡ true → MisplacedFirst t
    to e h = yes-not (is_node (kind_at t 0) && eqb (depth_at t 0) 0) e (rw (le-leb (kind_at t 0) expression h.0, eq-eqb (depth_at t 0) 0 h.1))

    back : MisplacedFirst t → misplaced t 0 ≡ true
    back h =
        not_yes _
        (λ e.
        let b = both (is_node (kind_at t 0)) (eqb (depth_at t 0) 0) e in
        h (leb-true (kind_at t 0) expression b.0, eqb-true (depth_at t 0) 0 b.1))

-- over the depth before plus 1; over the depth of a token just before
abbrev deeper : List ℕ → ℕ → Bool
deeper t i = ltb (depth_at t i + 1) (depth_at t (suc i))

abbrev below : List ℕ → ℕ → Bool
below t i = is_token (kind_at t i) && ltb (depth_at t i) (depth_at t (suc i))

pub misplaced-later : (t : List ℕ) (i : ℕ) → (misplaced t (i + 1) ≡ true) ↔ MisplacedLater t i
unfolding misplaced
misplaced-later t i = rw (add-one i) (to, back)
  where
    to : misplaced t (suc i) ≡ true
        → (depth_at t (suc i) ≡ 0) ⊎ ((depth_at t i + 1 < depth_at t (suc i)) ⊎ (Token (kind_at t i) × (depth_at t i < depth_at t (suc i))))
    to e =
        ⊎_elim
        (λ x.
        ⊎_elim
        (λ y. inl (eqb-true (depth_at t (suc i)) 0 y))
        (λ y. inr (inl (ltb-true (depth_at t i + 1) (depth_at t (suc i)) y)))
        (or-either (eqb (depth_at t (suc i)) 0) (deeper t i) x))
        (λ x.
        let b = both (is_token (kind_at t i)) _ x in
        inr (inr (token→ (kind_at t i) b.0, ltb-true (depth_at t i) (depth_at t (suc i)) b.1)))
        (or-either (eqb (depth_at t (suc i)) 0 || deeper t i) (below t i) e)

    back : (depth_at t (suc i) ≡ 0) ⊎ ((depth_at t i + 1 < depth_at t (suc i)) ⊎ (Token (kind_at t i) × (depth_at t i < depth_at t (suc i))))
        → misplaced t (suc i) ≡ true
    back (inl e) = or_left _ (below t i) (or_left _ (deeper t i) (eq-eqb (depth_at t (suc i)) 0 e))
    back (inr (inl h)) = or_left _ (below t i) (or_right (eqb (depth_at t (suc i)) 0) _ (lt-ltb (depth_at t i + 1) (depth_at t (suc i)) h))
    back (inr (inr h)) =
        or_right (eqb (depth_at t (suc i)) 0 || deeper t i) _
        (rw (token← (kind_at t i) h.0, lt-ltb (depth_at t i) (depth_at t (suc i)) h.1))

pub too-deep : (t : List ℕ) (i : ℕ) → (too_deep t i ≡ true) ↔ TooDeep t i
too-deep t i = (ltb-true most_depth (depth_at t i), lt-ltb most_depth (depth_at t i))

-- what `nearest` gives is the nearest, or 0 where there is none
pub nearest-found : (t : List ℕ) (d i : ℕ) → NearestBefore t d i (nearest t d i) ⊎ (NoneBefore t d i × (nearest t d i ≡ 0))
unfolding nearest
nearest-found t d zero = inr ((λ k h e. omega arith), refl)
nearest-found t d (suc i) = go (eqb (depth_at t i + 1) d) refl (nearest-found t d i)
  where
    further : {Q : ℕ → Type 0} → (eqb (depth_at t i + 1) d ≡ false) → ((k : ℕ) → Q k → k < i → depth_at t k + 1 ≡ d → ⊥) → (k : ℕ) → Q k → k < suc i → depth_at t k + 1 ≡ d → ⊥
    further b f k q h e =
        ⊎_elim
        (λ g. f k q g e)
        (λ g. let z : k ≡ i = omega arith in clash b (eq-eqb (depth_at t i + 1) d (rw z at e)))
        (lt-or-le k i)

    go : (b : Bool) → eqb (depth_at t i + 1) d ≡ b → NearestBefore t d i (nearest t d i) ⊎ (NoneBefore t d i × (nearest t d i ≡ 0))
        → NearestBefore t d (suc i) (cond b i (nearest t d i)) ⊎ (NoneBefore t d (suc i) × (cond b i (nearest t d i) ≡ 0))
    go true b ih = inl (record { before = omega arith; depth = eqb-true (depth_at t i + 1) d b; nearest = λ k p q e. omega arith })
    go false b (inl w) =
        inl (record { before = omega (arith, w.before); depth = w.depth; nearest = further {Q = λ k. nearest t d i < k} b (λ k q h. w.nearest k q h) })
    go false b (inr w) = inr ((λ k. further {Q = λ k. Unit} b (λ k q h. w.0 k h) k tt), w.1)

-- and no other record is
one-nearest : (t : List ℕ) (d i p q : ℕ) → NearestBefore t d i p → NearestBefore t d i q → p ≡ q
one-nearest t d i p q a b =
    ⊎_elim
    (λ h. absurd (a.nearest q h b.before b.depth))
    (λ h. ⊎_elim (λ g. absurd (b.nearest p g a.before a.depth)) (λ g. omega arith) (lt-or-le q p))
    (lt-or-le p q)

pub wrong-parent : (t : List ℕ) (i : ℕ) → (wrong_parent t i ≡ true) ↔ WrongParent t i
wrong-parent t i = (to, back)
  where
    d : ℕ
    d = depth_at t i

    right : NearestBefore t d i (parent_at t i) ⊎ (NoneBefore t d i × (parent_at t i ≡ 0)) → NearestBefore t d i (nearest t d i) ⊎ (NoneBefore t d i × (nearest t d i ≡ 0))
        → parent_at t i ≡ nearest t d i
    right (inl a) (inl b) = one-nearest t d i _ _ a b
    right (inl a) (inr b) = absurd (b.0 _ a.before a.depth)
    right (inr a) (inl b) = absurd (a.0 _ b.before b.depth)
    right (inr a) (inr b) = a.1 ∙ sym b.1

    to : wrong_parent t i ≡ true → WrongParent t i
    to e h = yes-not _ e (eq-eqb (parent_at t i) (nearest t d i) (right h (nearest-found t d i)))

    back : WrongParent t i → wrong_parent t i ≡ true
    back h =
        not_yes _
        (λ e.
        let q : nearest t d i ≡ parent_at t i = sym (eqb-true (parent_at t i) (nearest t d i) e) in
        h (rw q at (nearest-found t d i)))

-- a number is below the last token's end exactly where there is a last token that ends after it
pub ends-after : (t : List ℕ) (i x : ℕ) → x < last_end t i → EndsAfter t i x
unfolding last_end
ends-after t zero x h = absurd (omega arith)
ends-after t (suc i) x h = go (is_token (kind_at t i)) refl h (ends-after t i x)
  where
    go : (b : Bool) → is_token (kind_at t i) ≡ b → x < cond b (end_at t i) (last_end t i) → (x < last_end t i → EndsAfter t i x) → EndsAfter t (suc i) x
    go true e h ih = record { previous = i; last = record { before = omega arith; token = token→ (kind_at t i) e; last = λ k p q w. omega arith }; inside = h }
    go false e h ih =
        let s = ih h in
        record {
          previous = s.previous;
          last = record { before = omega (arith, s.last.before); token = s.last.token; last = λ k p q w. earlier s k p q w };
          inside = s.inside;
        }
      where
        earlier : (s : EndsAfter t i x) (k : ℕ) → s.previous < k → k < suc i → Token (kind_at t k) → ⊥
        earlier s k p q w =
            ⊎_elim
            (λ g. s.last.last k p g w)
            (λ g. let z : k ≡ i = omega arith in clash e (token← (kind_at t i) (rw z at w)))
            (lt-or-le k i)

ends-before : (t : List ℕ) (i x : ℕ) → EndsAfter t i x → x < last_end t i
unfolding last_end
ends-before t zero x s = absurd (omega (arith, s.last.before))
ends-before t (suc i) x s = go (is_token (kind_at t i)) refl (ends-before t i x)
  where
    go : (b : Bool) → is_token (kind_at t i) ≡ b → (EndsAfter t i x → x < last_end t i) → x < cond b (end_at t i) (last_end t i)
    go true e ih =
        ⊎_elim
        (λ g. absurd (s.last.last i g (omega arith) (token→ (kind_at t i) e)))
        (λ g. let z : s.previous ≡ i = omega (arith, s.last.before) in rw z at s.inside)
        (lt-or-le s.previous i)
    go false e ih =
        ⊎_elim
        (λ g. ih (record { previous = s.previous; last = record { before = g; token = s.last.token; last = λ k p q w. s.last.last k p (omega arith) w }; inside = s.inside }))
        (λ g. let z : s.previous ≡ i = omega (arith, s.last.before) in absurd (clash e (token← (kind_at t i) (rw z at s.last.token))))
        (lt-or-le s.previous i)

pub bad-span : (t : List ℕ) (n i : ℕ) → (bad_span t n i ≡ true) ↔ BadSpan t n i
unfolding bad_span
bad-span t n i = (to, back)
  where
    to : bad_span t n i ≡ true → BadSpan t n i
    to e =
        let b = both (is_token (kind_at t i)) _ e in (
          token→ (kind_at t i) b.0,
          ⊎_elim
              (λ x.
              ⊎_elim
              (λ y. inl (ltb-true (end_at t i) (start_at t i) y))
              (λ y. inr (inl (ltb-true n (end_at t i) y)))
              (or-either (ltb (end_at t i) (start_at t i)) (ltb n (end_at t i)) x))
              (λ x. inr (inr (ends-after t i (start_at t i) (ltb-true (start_at t i) (last_end t i) x))))
              (or-either (ltb (end_at t i) (start_at t i) || ltb n (end_at t i)) (ltb (start_at t i) (last_end t i)) b.1),
        )

    spans : (end_at t i < start_at t i) ⊎ ((n < end_at t i) ⊎ EndsAfter t i (start_at t i)) → (ltb (end_at t i) (start_at t i) || ltb n (end_at t i) || ltb (start_at t i) (last_end t i)) ≡ true
    spans (inl h) = or_left _ (ltb (start_at t i) (last_end t i)) (or_left _ (ltb n (end_at t i)) (lt-ltb (end_at t i) (start_at t i) h))
    spans (inr (inl h)) = or_left _ (ltb (start_at t i) (last_end t i)) (or_right (ltb (end_at t i) (start_at t i)) _ (lt-ltb n (end_at t i) h))
    spans (inr (inr h)) =
        or_right (ltb (end_at t i) (start_at t i) || ltb n (end_at t i)) _
        (lt-ltb (start_at t i) (last_end t i) (ends-before t i (start_at t i) h))

    back : BadSpan t n i → bad_span t n i ≡ true
    back h = rw (token← (kind_at t i) h.0) (spans h.1)
