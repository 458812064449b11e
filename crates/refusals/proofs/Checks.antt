-- The check as a loop over the records: its invariant, and a law for each thing that a turn does.
--     checking-start                                       before the first turn
--     checking-misfit, checking-parent, checking-span      at a record that breaks 3, 4 or 5; 12; 6
--     checking-next                                        after a record that breaks no rule
--     checking-end                                         after the last record
-- Assumes nothing.
use Prim.Native.Nat.{ℕ, zero, suc, ◌+◌, ◌-◌, ◌≤◌, ◌<◌}
use mathlib.Core.Path.{◌≡◌, refl, sym, ◌∙◌}
use mathlib.Core.Bool.{Bool, true, false, cond, not}
use mathlib.Core.Logic.{⊎_elim}
use mathlib.Core.List.{List}
use native.Mathlib.Numerals.{add-one}
use native.Mathlib.Omega.{arith}
use borrow.Author.Tests.{ltb-false, eq-eqb, ne_eqb}
use lib.Dec.{eqb}
use lib.ListN.{length, get_or, set, replicate, length-set}
use lib.Seq.{get_or-set_same, get_or-set_other}
use Rattle.lent.specs.declared.refusal.Condition.{Condition}
use Rattle.std.specs.Prelude.{Ok, Option, Some, None}
use Rattle.lent.specs.declared.refusal.Condition.TheVariants.{UnlistedKind, Misplaced, TooDeep, BadSpan, WrongParent}
use Rattle.lent.specs.Verdicts.{first, Verdict, refused}
use Rattle.lent.proofs.Cases.{eq-or-not}
use Rattle.records.specs.declared.record.Rec.{Rec}
use Rattle.records.specs.Table.{count, depth_at, parent_at, record_at}
use Rattle.record_conditions.specs.declared.step.Known.{Known}
use Rattle.conditions.specs.Conditions.{most_depth, unlisted, misplaced, too_deep, nearest, parent_of, wrong_parent, bad_span, last_end}
use Rattle.record_conditions.specs.inner.Step.{depths, deepest_next, known_at, after, off_source, misfit_of}
use Rattle.record_conditions.proofs.Steps.{early, misfit-at, span-at, after-at}
use Rattle.refusals.specs.ByRecord.{rules_from}

-- the verdict on record i by 3, 4 and 5, where it is `on` by the rules behind
abbrev told : ℕ → Bool → Bool → Bool → Verdict → Verdict
told i p q r on = cond p (refused UnlistedKind i) (cond q (refused Misplaced i) (cond r (refused TooDeep i) on))

told-early : (i : ℕ) (p q r : Bool) (on : Verdict) {c : Condition} → early p q r ≡ Some c → told i p q r on ≡ refused c i
told-early i true q r on h = cc
told-early i false true r on h = cc
told-early i false false true on h = cc
told-early i false false false on h = absurd (let z : ◌≡◌ {A = ℕ} 0 1 = cc in omega arith)

told-on : (i : ℕ) (p q r : Bool) (on : Verdict) → early p q r ≡ None → (told i p q r on ≡ on) × (r ≡ false)
told-on i true q r on e = absurd (let z : ◌≡◌ {A = ℕ} 0 1 = cc in omega arith)
told-on i false true r on e = absurd (let z : ◌≡◌ {A = ℕ} 0 1 = cc in omega arith)
told-on i false false true on e = absurd (let z : ◌≡◌ {A = ℕ} 0 1 = cc in omega arith)
told-on i false false false on e = (refl, refl)

-- what the check carries along of parents: at each depth, the last record whose depth is one less
pub record Parents (t : List ℕ) (i : ℕ) (above : List ℕ) : Type 0 where
  pub wide : length above ≡ depths
  pub each : (d : ℕ) → d < depths → get_or above d 0 ≡ nearest t d i

parents-start : (t : List ℕ) → Parents t 0 (replicate depths 0)
unfolding nearest
parents-start t = record { wide = refl; each = λ d h. zeros depths d }
  where
    zeros : (n d : ℕ) → ◌≡◌ {A = ℕ} (get_or (replicate n 0) d 0) 0
    zeros zero d = refl
    zeros (suc n) zero = refl
    zeros (suc n) (suc d) = zeros n d

-- after record i, which is not too deep
parents-next : {t above : List ℕ} {i : ℕ} → Parents t i above → depth_at t i + 1 < depths → Parents t (i + 1) (set above (depth_at t i + 1) i)
unfolding nearest
parents-next {t} {above} {i} w h =
    record {
      wide = length-set above (depth_at t i + 1) i ∙ w.wide;
      each = λ d g.
          rw (add-one i)
          (⊎_elim
          (λ e. rw (eq-eqb (depth_at t i + 1) d e, ← e) (get_or-set_same above (depth_at t i + 1) i 0 (omega (arith, w.wide))))
          (λ e. rw (ne_eqb (depth_at t i + 1) d e) (get_or-set_other above (depth_at t i + 1) d i 0 (λ q. e (sym q)) ∙ w.each d g))
          (eq-or-not (depth_at t i + 1) d));
    }

-- ---- the loop, at record i: the verdict will be v
pub record Checking (t : List ℕ) (n i : ℕ) (b : Known) (above : List ℕ) (v : Verdict) : Type 0 where
  pub known : b ≡ known_at t i
  pub parents : Parents t i above
  pub left : v ≡ first (rules_from t n i (count t - i))

pub checking-start : (t : List ℕ) (n : ℕ) → Checking t n 0 (record { deepest = 0; end = 0 }) (replicate depths 0) (first (rules_from t n 0 (count t)))
unfolding known_at deepest_next last_end
checking-start t n = let e : count t - 0 ≡ count t = omega arith in record { known = refl; parents = parents-start t; left = rw e }

module _ {t : List ℕ} {n i : ℕ} {b : Known} {above : List ℕ} {v : Verdict} (w : Checking t n i b above v) where
  pub checking-end : count t ≤ i → Ok tt ≡ v
  unfolding rules_from
  checking-end h = let e : count t - i ≡ 0 = omega arith in sym (w.left ∙ rw e)

  -- at record i, which was read as r
  module _ {r : Rec} (h : i < count t) (q : r ≡ record_at t 0 i) where
    -- the verdict from the next record on
    abbrev on : Verdict
    on = first (rules_from t n (suc i) (count t - (i + 1)))

    turn : v ≡ told i (unlisted t i) (misplaced t i) (too_deep t i) (cond (wrong_parent t i) (refused WrongParent i) (cond (bad_span t n i) (refused BadSpan i) on))
    unfolding rules_from
    turn = let e : count t - i ≡ suc (count t - (i + 1)) = omega arith in w.left ∙ rw e

    misfit : misfit_of b r ≡ early (unlisted t i) (misplaced t i) (too_deep t i)
    misfit = rw (w.known, q) (misfit-at t i)

    span : off_source n b r ≡ bad_span t n i
    span = rw (w.known, q) (span-at t n i)

    depth : r.depth ≡ depth_at t i
    depth = rw q (unfold record_at in refl)

    pub checking-misfit : {k : Condition} → Some k ≡ misfit_of b r → refused k i ≡ v
    checking-misfit s = sym (turn ∙ told-early i (unlisted t i) (misplaced t i) (too_deep t i) _ (sym (s ∙ misfit)))

    module _ {k : Option Condition} (s : k ≡ misfit_of b r) (z : k ≡ None) where
      fits : (on' : Verdict) → (told i (unlisted t i) (misplaced t i) (too_deep t i) on' ≡ on') × (too_deep t i ≡ false)
      fits on' = told-on i (unlisted t i) (misplaced t i) (too_deep t i) on' (sym (s ∙ misfit) ∙ z)

      pub fit-depth : r.depth ≤ most_depth
      fit-depth = rw depth (ltb-false most_depth (depth_at t i) (fits v).1)

      fitted : v ≡ cond (wrong_parent t i) (refused WrongParent i) (cond (bad_span t n i) (refused BadSpan i) on)
      fitted = turn ∙ (fits _).0

      expected : get_or above r.depth 0 ≡ parent_of t i
      expected = w.parents.each r.depth (omega (arith, fit-depth)) ∙ rw depth

      stray : not (eqb (parent_at t i) (get_or above r.depth 0)) ≡ wrong_parent t i
      stray = rw expected

      pub checking-parent : not (eqb (parent_at t i) (get_or above r.depth 0)) ≡ true → refused WrongParent i ≡ v
      checking-parent f = sym (fitted ∙ rw (sym stray ∙ f))

      module _ (p : not (eqb (parent_at t i) (get_or above r.depth 0)) ≡ false) where
        owned : v ≡ cond (bad_span t n i) (refused BadSpan i) on
        owned = fitted ∙ rw (sym stray ∙ p)

        pub checking-span : off_source n b r ≡ true → refused BadSpan i ≡ v
        checking-span e = sym (owned ∙ rw (sym span ∙ e))

        pub checking-next : {b' : Known} {above' : List ℕ} → off_source n b r ≡ false → above' ≡ set above (r.depth + 1) i → b' ≡ after b r
            → Checking t n (i + 1) b' above' v
        checking-next e o a =
            record {
              known = rw (add-one i) (a ∙ rw (w.known, q) (after-at t i));
              parents = rw (o, depth) (parents-next w.parents (omega (arith, fit-depth, depth)));
              left = owned ∙ rw (sym span ∙ e, add-one i);
            }
