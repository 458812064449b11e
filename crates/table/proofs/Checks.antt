-- What the check says, of the rules, and what is known of a table that it admits.
--     few, some                                 a table of a good length has records, and at most 4,096
--     rules-refused, rules-passed               the verdict is the rules'
--     root-refused, root_none, root-admitted    the check of a named root
--     root-known                                where a root is admitted, it is one of at most 4,096 records
-- Assumes nothing.
use Prim.Native.Nat.{ℕ, ◌%◌, ◌≤◌, ◌<◌}
use mathlib.Core.Path.{◌≡◌, refl, sym, ◌∙◌}
use mathlib.Core.Bool.{Bool, true, false, not, ◌&&◌, ◌||◌}
use mathlib.Core.Logic.{⊎_elim}
use mathlib.Core.List.{List, [], ◌∷◌, ◌++◌}
use native.Mathlib.Omega.{arith}
use borrow.Author.Tests.{ltb-true, ltb-false, eqb-true, eqb-false}
use lib.Dec.{eqb, ltb}
use lib.ListN.{length}
use Rattle.std.specs.Prelude.{Ok, Err}
use Rattle.lent.specs.declared.refusal.Condition.TheVariants.{BadLength, TooLong, NoRoot}
use Rattle.lent.specs.declared.refusal.Refusal.{Refusal}
use Rattle.lent.specs.Verdicts.{rule, first, Verdict, refused}
use Rattle.lent.proofs.Verdicts.{then-refused, then-admitted, unbroken, last-unbroken}
use Rattle.lent.proofs.Cases.{lt-or-le}
use Rattle.records.specs.Kinds.{is_node}
use Rattle.records.specs.Table.{record_bytes, count, kind_at}
use Rattle.conditions.specs.Conditions.{most_records, bad_length, too_long, no_root}
use Rattle.refusals.specs.ByRecord.{rules_from}
use Rattle.table.specs.Rules.{rules, verdict, root_verdict}

-- a table that passes rule 1 has at most 4,096 records
pub few : (t : List ℕ) → bad_length t ≡ false → count t ≤ most_records
few t e = omega (arith, ltb-false most_records (count t) (right (eqb (length t) 0 || not (eqb (length t % record_bytes) 0)) _ e))
  where
    right : (a b : Bool) → (a || b) ≡ false → b ≡ false
    right true b p = cc
    right false b p = p

-- and one at least
pub some : (t : List ℕ) → bad_length t ≡ false → 0 < count t
some t e =
    let a = neither (eqb (length t) 0 || not (eqb (length t % record_bytes) 0)) (ltb most_records (count t)) e in
    let b = neither (eqb (length t) 0) (not (eqb (length t % record_bytes) 0)) a in
    let m : length t % record_bytes ≡ 0 = eqb-true (length t % record_bytes) 0 (whole _ (right (eqb (length t) 0) _ a)) in
    ⊎_elim (λ h. h) (λ h. absurd (eqb-false (length t) 0 b (omega arith))) (lt-or-le 0 (count t))
  where
    neither : (a b : Bool) → (a || b) ≡ false → a ≡ false
    neither true b p = p
    neither false b p = refl

    right : (a b : Bool) → (a || b) ≡ false → b ≡ false
    right true b p = cc
    right false b p = p

    whole : (a : Bool) → not a ≡ false → a ≡ true
    whole true p = refl
    whole false p = sym p

-- ---- what the check says, of the rules
module _ (t : List ℕ) (n m : ℕ) {v : Verdict} (e : v ≡ verdict t n m) where
  pub rules-refused : {r : Refusal} → v ≡ Err r → Err r ≡ first (rules t n m)
  unfolding verdict
  rules-refused q = sym q ∙ e

  pub rules-passed : v ≡ Ok tt → Ok tt ≡ first (rules t n m)
  unfolding verdict
  rules-passed q = sym q ∙ e

-- ---- the check of a named root
module _ (t : List ℕ) (n i : ℕ) where
  pub root-refused : {r : Refusal} → Err r ≡ verdict t n 0 → Err r ≡ root_verdict t n i
  unfolding verdict root_verdict
  root-refused e = then-refused (rules t n 0) _ e

  pub root_none : Ok tt ≡ verdict t n 0 → no_root t i ≡ true → refused NoRoot 0 ≡ root_verdict t n i
  unfolding verdict root_verdict
  root_none e h = sym (then-admitted (rules t n 0) (rule NoRoot 0 (no_root t i) ∷ []) e ∙ rw h)

  pub root-admitted : Ok tt ≡ verdict t n 0 → no_root t i ≡ false → Ok tt ≡ root_verdict t n i
  unfolding verdict root_verdict
  root-admitted e h = sym (then-admitted (rules t n 0) (rule NoRoot 0 (no_root t i) ∷ []) e ∙ rw h)

-- where a question's root is admitted, there are at most 4,096 records, and the root is one of them
pub root-known : (t : List ℕ) (n i : ℕ) → Ok tt ≡ root_verdict t n i → (count t ≤ most_records) × (i < count t)
unfolding root_verdict
root-known t n i e = (few t (unbroken (rule BadLength 0 (bad_length t)) (rule TooLong 0 (too_long n 0) ∷ (rules_from t n 0 (count t) ++ rule NoRoot 0 (no_root t i) ∷ [])) e), within (ltb i (count t)) (is_node (kind_at t i)) refl (last-unbroken (rules t n 0) (rule NoRoot 0 (no_root t i)) e))
  where
    within : (a b : Bool) → ltb i (count t) ≡ a → not (a && b) ≡ false → i < count t
    within true b q h = ltb-true i (count t) q
    within false b q h = absurd (let z : ◌≡◌ {A = ℕ} 0 1 = cc in omega arith)
