-- Refusal 10 among the table's refusals.
--     past-on, -back, -free, -over, -other     the table's places with the third left free
--     early-place, late-place           1 and 2 stand before it, the records' refusals behind
--     amid, amid-rules                  the table's verdict with 10 after 2 is that of the rules with 10 after 2
--     whole-offsets, no-offsets         no bytes are no bad offsets
-- Assumes nothing.
use Prim.Native.Nat.{ℕ, ◌+◌, ◌≤◌, ◌<◌}
use mathlib.Core.Path.{◌≡◌, refl}
use mathlib.Core.Bool.{Bool, true, false, cond}
use mathlib.Core.List.{List}
use mathlib.Core.Logic.{⊎_elim}
use native.Mathlib.Omega.{arith}
use borrow.Author.Tests.{lt-ltb, le-ltb}
use lib.Dec.{ltb}
use Rattle.std.specs.Prelude.{Ok, Err}
use Rattle.lent.specs.declared.refusal.Condition.TheVariants.{BadOffsets as A-offsets, BadLength as A-length, TooLong as A-limit}
use Rattle.lent.specs.declared.refusal.Refusal.{Refusal}
use Rattle.records.specs.Table.{count}
use Rattle.conditions.specs.Conditions.{bad_length, too_long, bad_offsets}
use Rattle.refusals.specs.ByRecord.{rules_from}
use Rattle.table.specs.Rules.{offset_rules, verdict}
use Rattle.lent.specs.Verdicts.{first, Verdict, refused, number_of}
use Rattle.table.specs.Exactly.{BadOffsets, Broken, broken-1, broken-2, broken-3, broken-4, broken-5, broken-12, broken-6, rank, place}
use Rattle.lent.proofs.Cases.{lt-or-le}
use Rattle.table.proofs.Exactly.{clash, bad-offsets, refused-exactly}
use Rattle.demands.specs.Demand1.{past}

-- ---- the places

before : (p : ℕ) → p < 3 → past p ≡ p
unfolding past
before p h = rw (lt-ltb p 3 h)

behind : (p : ℕ) → 3 ≤ p → past p ≡ p + 1
unfolding past
behind p h = rw (le-ltb p 3 h)

pub past-on : (p q : ℕ) → p ≤ q → past p ≤ past q
past-on p q h =
    ⊎_elim
    (λ x. ⊎_elim (λ y. rw (before p x, before q y) h) (λ y. rw (before p x, behind q y) (omega arith)) (lt-or-le q 3))
    (λ x. rw (behind p x, behind q (omega arith)) (omega arith))
    (lt-or-le p 3)

pub past_back : (p q : ℕ) → past p ≤ past q → p ≤ q
past_back p q h =
    ⊎_elim
    (λ g. absurd (omega (arith, h, below g)))
    (λ g. g)
    (lt-or-le q p)
  where
    below : q < p → past q < past p
    below g =
        ⊎_elim
        (λ y. ⊎_elim (λ x. rw (before p x, before q y) g) (λ x. rw (behind p x, before q y) (omega arith)) (lt-or-le p 3))
        (λ y. rw (behind q y, behind p (omega arith)) (omega arith))
        (lt-or-le q 3)

pub past-free : (p : ℕ) → 3 ≤ p → 3 ≤ past p
past-free p h = rw (behind p h) (omega arith)

pub past-over : (p : ℕ) → past p ≤ p + 1
past-over p = ⊎_elim (λ x. rw (before p x) (omega arith)) (λ x. rw (behind p x) (omega arith)) (lt-or-le p 3)

pub past-other : (p : ℕ) → past p ≡ 3 → ⊥
past-other p e = ⊎_elim (λ x. omega (arith, before p x)) (λ x. omega (arith, behind p x)) (lt-or-le p 3)

pub early-place : (k d : ℕ) → k < 3 → past (place k d) ≡ k
unfolding place
early-place k d h = rw (lt-ltb k 3 h) (before k h)

module _ {t : List ℕ} {n m : ℕ} where
  pub late-place : (k d : ℕ) → Broken t n m k d → 3 ≤ k → 3 ≤ place k d
  unfolding place rank
  late-place k d (broken-1 e z b) h = absurd (omega arith)
  late-place k d (broken-2 e z b) h = absurd (omega arith)
  late-place k d (broken-3 e z b) h = rw e (omega arith)
  late-place k d (broken-4 e z b) h = rw e (omega arith)
  late-place k d (broken-5 e z b) h = rw e (omega arith)
  late-place k d (broken-12 e z b) h = rw e (omega arith)
  late-place k d (broken-6 e z b) h = rw e (omega arith)

-- ---- the verdict

-- a verdict on a table with 10 after 1 and 2, where the offsets are bad or not
unfoldable pub amid : Bool → Verdict → Verdict
amid false v = v
amid true (Ok tt) = refused A-offsets 0
amid true (Err r) = cond (ltb (number_of r.condition) 3) (Err r) (refused A-offsets 0)

module _ (t : List ℕ) (n b : ℕ) where
  abbrev records : Verdict
  records = first (rules_from t n 0 (count t))

  -- a record's refusal is none of the first two
  late : bad_length t ≡ false → too_long n 0 ≡ false → (r : Refusal) → records ≡ Err r → 3 ≤ number_of r.condition
  unfolding verdict
  late p q r e = go (number_of r.condition) r.detail ((refused-exactly t n 0 _ _).0 (rw (p, q, e) (refl, refl))).holds
    where
      go : (k d : ℕ) → Broken t n 0 k d → 3 ≤ k
      go k d (broken-1 u z x) = absurd (clash p x)
      go k d (broken-2 u z x) = absurd (clash q x)
      go k d (broken-3 u z x) = omega arith
      go k d (broken-4 u z x) = omega arith
      go k d (broken-5 u z x) = omega arith
      go k d (broken-12 u z x) = omega arith
      go k d (broken-6 u z x) = omega arith

  pub amid-rules : first (offset_rules t n b) ≡ amid (bad_offsets b) (verdict t n 0)
  unfolding verdict amid
  amid-rules = go (bad_length t) (too_long n 0) (bad_offsets b) refl refl
    where
      behind-two : bad_length t ≡ false → too_long n 0 ≡ false → (v : Verdict) → records ≡ v → refused A-offsets 0 ≡ amid true v
      behind-two p q (Ok tt) e = refl
      behind-two p q (Err r) e = rw (le-ltb (number_of r.condition) 3 (late p q r e))

      go : (p q r : Bool) → bad_length t ≡ p → too_long n 0 ≡ q
          → cond p (refused A-length 0) (cond q (refused A-limit 0) (cond r (refused A-offsets 0) records)) ≡ amid r (cond p (refused A-length 0) (cond q (refused A-limit 0) records))
      go true q true e f = refl
      go true q false e f = refl
      go false true true e f = refl
      go false true false e f = refl
      go false false true e f = behind-two e f records refl
      go false false false e f = refl

pub whole-offsets : (b : ℕ) → bad_offsets b ≡ false → BadOffsets b → ⊥
whole-offsets b e w = clash e ((bad-offsets b).1 w)

pub no-offsets : BadOffsets 0 → ⊥
no-offsets = whole-offsets 0 refl
