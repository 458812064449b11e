-- The climb from parent to parent, as it writes.
--     Upward, upward-start, -step, -end    the loop
--     above-filled, above-short            the list
--     number-refused, -none, -admitted     its rules
--     climbed                              what the check gives
-- Assumes nothing.
use Prim.Native.Nat.{ℕ, ◌+◌, ◌*◌, ◌/◌, ◌≤◌, ◌<◌}
use mathlib.Core.Path.{◌≡◌, refl, sym, ◌∙◌}
use mathlib.Core.List.{List, [], ◌∷◌, ◌++◌, append_assoc, append-nil}
use native.Mathlib.Omega.{arith}
use native.Mathlib.Nat.{mul-div_cancel}
use borrow.Author.Tests.{lt-ltb, le-ltb}
use lib.ListN.{length}
use Rattle.std.specs.Prelude.{Ok, Err}
use Rattle.lent.specs.declared.refusal.Condition.TheVariants.{NoRoom, NoRoot}
use Rattle.lent.specs.declared.refusal.Refusal.{Refusal}
use Rattle.records.specs.Table.{count, depth_at, parent_at}
use Rattle.conditions.specs.Conditions.{most_records, no_such_record}
use Rattle.table.specs.Rules.{rules, number_rules, verdict}
use Rattle.lent.specs.Verdicts.{Rule, rule, first, Verdict, refused}
use Rattle.lent.specs.Numbers.{number_bytes}
use Rattle.lent.specs.Lists.{put, list_bytes, Written, Answers}
use Rattle.forest.specs.Above.{above_among, above}
use Rattle.forest.specs.inner.Climbing.{Climbs}
use Rattle.lent.proofs.Writes.{written_none, written_one, written_then, length-wide, list-filled, list-short}
use Rattle.lent.proofs.Verdicts.{then-refused, then-admitted}
use Rattle.table.proofs.Checks.{rules-refused, rules-passed}
use Rattle.forest.proofs.Sense.{admitted-tidy}
use Rattle.forest.proofs.Above.{climbs, above-deep}
use Rattle.above.specs.Above.{above_row}
use Rattle.above.specs.inner.Deep.{Deep}

module _ (t : List ℕ) (n : ℕ) where
  -- at record i, with what was written so far
  pub record Upward (out₀ : List ℕ) (i : ℕ) (out : List ℕ) (next : ℕ) : Type 0 where
    pub sofar : List ℕ
    pub written : Written above_row sofar out₀ 0 out next
    pub left : sofar ++ above t i ≡ above t n

  pub upward-start : (out : List ℕ) → Upward out n out 0
  upward-start out = record { sofar = []; written = written_none above_row out 0; left = refl }

  module _ {out₀ : List ℕ} {i : ℕ} {out : List ℕ} {next : ℕ} (w : Upward out₀ i out next) where
    pub upward-step : {x : ℕ} {out' : List ℕ} {next' : ℕ} → Climbs t → 0 < i → i < count t → x ≡ parent_at t i → out' ≡ put out next (x ∷ [])
        → next' ≡ next + number_bytes * 1 → Upward out₀ x out' next'
    upward-step {x} c s h e p q =
        record {
          sofar = w.sofar ++ x ∷ [];
          written = written_then above_row w.written (written_one above_row x out next p q);
          left = append_assoc w.sofar (x ∷ []) (above t x) ∙ (let u : above t i ≡ x ∷ above t x = rw e (c.on i s h) in rw u at w.left);
        }

    pub upward-end : i ≡ 0 → Written above_row (above t n) out₀ 0 out next
    unfolding above_among
    upward-end z = rw (← (rw (z, append-nil w.sofar) at w.left)) w.written

  -- ---- the list, where its length is the record's depth
  module _ (d : Deep t n) {k : ℕ} (e : k ≡ depth_at t n) where
    sized : length (list_bytes above_row (above t n)) ≡ k * number_bytes
    sized = length-wide above_row number_bytes (λ b. refl) (above t n) ∙ rw (d, e)

    pub above-filled : (out : List ℕ) {out' : List ℕ} {m : ℕ} → Written above_row (above t n) out 0 out' m → k ≤ length out / number_bytes
        → Answers [] above_row (above t n) out (Ok k) out'
    above-filled out {out'} {m} w h =
        let q : m ≡ k * number_bytes = omega (arith, w.next, sized) in
        let r : m / number_bytes ≡ k = rw q (mul-div_cancel k (omega arith)) in
        rw r at (list-filled above_row number_bytes (λ b. refl) (omega arith) [] (above t n) out refl w (omega arith))

    pub above-short : (out : List ℕ) → length out / number_bytes < k → Answers [] above_row (above t n) out (refused NoRoom k) out
    above-short out h =
        let r : k * number_bytes / number_bytes ≡ k = mul-div_cancel k (omega arith) in
        rw r at (list-short above_row number_bytes (λ b. refl) (omega arith) [] (above t n) out refl (sym sized) (omega arith))

-- ---- the question: its rules, and what the check gives

module _ (t : List ℕ) (n i : ℕ) {v : Verdict} (e : v ≡ verdict t n 0) where
  abbrev last : List Rule
  last = rule NoRoot 0 (no_such_record t i) ∷ []

  pub number-refused : {r : Refusal} → v ≡ Err r → Err r ≡ first (number_rules t n i)
  number-refused q = then-refused (rules t n 0) last (rules-refused t n 0 e q)

  pub number-none : v ≡ Ok tt → count t ≤ i → refused NoRoot 0 ≡ first (number_rules t n i)
  number-none q h = sym (then-admitted (rules t n 0) last (rules-passed t n 0 e q) ∙ rw (le-ltb i (count t) h))

  pub number-admitted : v ≡ Ok tt → i < count t → Ok tt ≡ first (number_rules t n i)
  number-admitted q h = sym (then-admitted (rules t n 0) last (rules-passed t n 0 e q) ∙ rw (lt-ltb i (count t) h))

  pub climbed : v ≡ Ok tt → i < count t → ((i < count t) × (count t ≤ most_records)) × Climbs t × Deep t i
  climbed q h = let y = admitted-tidy t n 0 (sym e ∙ q) in ((h, y.few), climbs t n y, above-deep t n y i h)
