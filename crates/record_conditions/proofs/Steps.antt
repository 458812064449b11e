-- What the tests of a record find at record i is what the conditions say of it:
--     place_at, misfit-at, span-at    4; the first of 3, 4 and 5; 6
--     after-at                        and what they carry on is what is known before the next record
-- Assumes nothing.
use Prim.Native.Nat.{ℕ, zero, suc, ◌+◌}
use mathlib.Core.Path.{◌≡◌, refl, ap}
use mathlib.Core.Bool.{Bool, true, false, cond, ◌&&◌, ◌||◌}
use mathlib.Core.Logic.{⊎_elim}
use mathlib.Core.List.{List}
use native.Mathlib.Nat.{zero-add}
use native.Mathlib.Omega.{arith}
use borrow.Author.Tests.{lt-ltb, le-ltb, ne_eqb}
use lib.Dec.{eqb, ltb}
use Rattle.std.specs.Prelude.{Option, Some, None}
use Rattle.lent.specs.declared.refusal.Condition.TheVariants.{UnlistedKind, Misplaced, TooDeep}
use Rattle.lent.specs.declared.refusal.Condition.{Condition}
use Rattle.lent.proofs.Cases.{lt-or-le}
use Rattle.records.specs.Kinds.{is_token}
use Rattle.records.specs.Table.{kind_at, depth_at, record_at}
use Rattle.conditions.specs.Conditions.{unlisted, misplaced, too_deep, bad_span, last_end}
use Rattle.record_conditions.specs.inner.Step.{deepest_next, known_at, after, strange, out_of_place, off_source, misfit_of}

over : (tok : Bool) (d e : ℕ) → ltb (cond tok d (d + 1)) e ≡ (ltb (d + 1) e || (tok && ltb d e))
over true d e =
    ⊎_elim
    (λ h. rw (lt-ltb d e h) (right (ltb (d + 1) e)))
    (λ h. rw (le-ltb d e h, le-ltb (d + 1) e (omega arith)))
    (lt-or-le d e)
  where
    right : (b : Bool) → true ≡ (b || true)
    right true = refl
    right false = refl
over false d e = none (ltb (d + 1) e)
  where
    none : (b : Bool) → b ≡ (b || false)
    none true = refl
    none false = refl

pub place_at : (t : List ℕ) (i : ℕ) → out_of_place (known_at t i) (record_at t 0 i) ≡ misplaced t i
unfolding out_of_place known_at deepest_next record_at misplaced
place_at t zero = refl
place_at t (suc i) =
    rw (zero-add (suc i), ne_eqb (suc i) 0 (λ e. omega arith), over (is_token (kind_at t i)) (depth_at t i) (depth_at t (suc i)))
    (regroup (eqb (depth_at t (suc i)) 0) _ _)
  where
    regroup : (a b c : Bool) → (a || (b || c)) ≡ (a || b || c)
    regroup true b c = refl
    regroup false b c = refl

-- the first of 3, 4 and 5, of the three conditions
abbrev pub early : Bool → Bool → Bool → Option Condition
early p q r = cond p (Some UnlistedKind) (cond q (Some Misplaced) (cond r (Some TooDeep) None))

pub misfit-at : (t : List ℕ) (i : ℕ) → misfit_of (known_at t i) (record_at t 0 i) ≡ early (unlisted t i) (misplaced t i) (too_deep t i)
unfolding misfit_of strange record_at
misfit-at t i = ap (λ (q : Bool). early (unlisted t i) q (too_deep t i)) (place_at t i)

pub span-at : (t : List ℕ) (n i : ℕ) → off_source n (known_at t i) (record_at t 0 i) ≡ bad_span t n i
unfolding off_source bad_span known_at record_at
span-at t n i = refl

pub after-at : (t : List ℕ) (i : ℕ) → after (known_at t i) (record_at t 0 i) ≡ known_at t (suc i)
unfolding after known_at deepest_next last_end record_at
after-at t i = refl
