-- The first of two lists of rules that is broken, and what an admitted list says of its rules.
-- Assumes nothing.
use Prim.Native.Nat.{ℕ, ◌≤◌}
use mathlib.Core.Path.{◌≡◌, refl, sym, ◌∙◌}
use mathlib.Core.Bool.{Bool, true, false, cond}
use mathlib.Core.List.{List, [], ◌∷◌, ◌++◌}
use native.Mathlib.Omega.{arith}
use Rattle.lent.specs.declared.refusal.Condition.TheVariants.{BadLength, TooLong, UnlistedKind, Misplaced, TooDeep, BadSpan, NoRoom, NoRoot, BadLine, BadOffsets, WrongParent}
use Rattle.lent.specs.declared.refusal.Condition.{Condition}
use Rattle.lent.specs.Lists.{reply}
use Rattle.std.specs.Prelude.{Ok, Err, Result}
use Rattle.lent.specs.declared.refusal.Refusal.{Refusal}
use Rattle.lent.specs.Verdicts.{Rule, refused, first, Verdict, IsRefused, number_of}

-- ---- rules in two parts: the second part speaks only where the first admits

pub then-refused : (rs more : List Rule) {r : Refusal} → Err r ≡ first rs → Err r ≡ first (rs ++ more)
then-refused [] more e = absurd (let z : ◌≡◌ {A = ℕ} 0 1 = cc in omega arith)
then-refused (r ∷ rs) more {r = x} e = go r.broken (then-refused rs more) e
  where
    go : (b : Bool) → (Err x ≡ first rs → Err x ≡ first (rs ++ more)) → Err x ≡ cond b (refused r.condition r.detail) (first rs) → Err x ≡ cond b (refused r.condition r.detail) (first (rs ++ more))
    go true ih p = p
    go false ih p = ih p

pub then-admitted : (rs more : List Rule) → Ok tt ≡ first rs → first (rs ++ more) ≡ first more
then-admitted [] more e = refl
then-admitted (r ∷ rs) more e = go r.broken (then-admitted rs more) e
  where
    go : (b : Bool) → (Ok tt ≡ first rs → first (rs ++ more) ≡ first more) → Ok tt ≡ cond b (refused r.condition r.detail) (first rs) → cond b (refused r.condition r.detail) (first (rs ++ more)) ≡ first more
    go true ih p = absurd (let z : ◌≡◌ {A = ℕ} 0 1 = cc in omega arith)
    go false ih p = ih p

-- what is admitted breaks no rule: not the first, and not the last
pub unbroken : (r : Rule) (rs : List Rule) → Ok tt ≡ first (r ∷ rs) → r.broken ≡ false
unbroken r rs e = go r.broken e
  where
    go : (b : Bool) → Ok tt ≡ cond b (refused r.condition r.detail) (first rs) → b ≡ false
    go true p = absurd (let z : ◌≡◌ {A = ℕ} 0 1 = cc in omega arith)
    go false p = refl

pub last-unbroken : (rs : List Rule) (r : Rule) → Ok tt ≡ first (rs ++ r ∷ []) → r.broken ≡ false
last-unbroken [] r e = unbroken r [] e
last-unbroken (x ∷ rs) r e = go x.broken (last-unbroken rs r) e
  where
    go : (b : Bool) → (Ok tt ≡ first (rs ++ r ∷ []) → r.broken ≡ false) → Ok tt ≡ cond b (refused x.condition x.detail) (first (rs ++ r ∷ [])) → r.broken ≡ false
    go true ih p = absurd (let z : ◌≡◌ {A = ℕ} 0 1 = cc in omega arith)
    go false ih p = ih p

-- ---- a reply: the refusal, or the answer
module _ {A : Type 0} {v w : Verdict} (a : A) (e : v ≡ w) where
  pub reply-refused : {r : Refusal} → v ≡ Err r → Err r ≡ reply w a
  unfolding reply
  reply-refused q = rw (← e, q)

  pub reply-given : {b : A} → v ≡ Ok tt → b ≡ a → Ok b ≡ reply w a
  unfolding reply
  reply-given q p = rw (← e, q, p)

-- what a reply says of the verdict that it was given on, and of the answer
pub refused-is : {A : Type 0} (v : Verdict) (x : A) {r : Refusal} → Err r ≡ reply v x → Err r ≡ v
unfolding reply
refused-is (Ok tt) x e = absurd (let z : ◌≡◌ {A = ℕ} 0 1 = cc in omega arith)
refused-is (Err r') x e = cc

pub given_is : {A : Type 0} (v : Verdict) (x : A) {y : A} → Ok y ≡ reply v x → (Ok tt ≡ v) × (y ≡ x)
unfolding reply
given_is (Ok tt) x e = (refl, cc)
given_is (Err r) x e = absurd (let z : ◌≡◌ {A = ℕ} 0 1 = cc in omega arith)

-- ---- a refusal's number, and its detail

-- it is not 0, and is at most 12
pub numbered : (c : Condition) → (1 ≤ number_of c) × (number_of c ≤ 12)
numbered BadLength = (omega arith, omega arith)
numbered TooLong = (omega arith, omega arith)
numbered UnlistedKind = (omega arith, omega arith)
numbered Misplaced = (omega arith, omega arith)
numbered TooDeep = (omega arith, omega arith)
numbered BadSpan = (omega arith, omega arith)
numbered NoRoom = (omega arith, omega arith)
numbered NoRoot = (omega arith, omega arith)
numbered BadLine = (omega arith, omega arith)
numbered BadOffsets = (omega arith, omega arith)
numbered WrongParent = (omega arith, omega arith)

pub one-refusal : {A : Type 0} (v : Result A Refusal) {k d k' d' : ℕ} → IsRefused v k d → IsRefused v k' d' → (k ≡ k') × (d ≡ d')
one-refusal (Ok a) p q = absurd p
one-refusal (Err r) p q = (sym p.0 ∙ q.0, sym p.1 ∙ q.1)
