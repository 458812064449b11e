-- A reply's number tells it apart from every other: two replies that questions give and that C gets as one number are equal.
-- That takes two things: a condition's number is not 0, which is an answer's, fits its half, and is no other condition's; and a hint or a
-- statement names a record below `none`, as every record of an admitted table is.
--     apart     THE THEOREM
-- Assumes nothing.
use Prim.Native.Nat.{ℕ, ◌<◌}
use mathlib.Core.Path.{◌≡◌, refl, sym, ap, ◌∙◌}
use mathlib.Core.Bool.{cond}
use mathlib.Core.List.{List}
use native.Mathlib.Omega.{arith}
use lib.Dec.{eqb}
use lib.ListN.{length}
use Rattle.std.specs.Prelude.{Ok, Err, Result, Option, Some, None}
use Rattle.lent.specs.declared.refusal.Condition.{Condition}
use Rattle.lent.specs.declared.refusal.Condition.TheVariants.{BadLength, TooLong, UnlistedKind, Misplaced, TooDeep, BadSpan, NoRoom, NoRoot, BadLine, BadOffsets, WrongParent}
use Rattle.lent.specs.declared.refusal.Refusal.{Refusal}
use Rattle.lent.specs.Verdicts.{Verdict, number_of}
use Rattle.lent.specs.Lists.{reply}
use Rattle.lent.proofs.Verdicts.{given_is, numbered}
use Rattle.table.specs.Rules.{verdict}
use Rattle.brackets.specs.Brackets.{stack_left, hint_of}
use Rattle.brackets.proofs.Fitting.{hint-within}
use Rattle.statement.specs.Statement.{enclosing_at}
use Rattle.statement.proofs.Fitting.{statement-within}
use Rattle.demands.specs.Apart.{Apart}
use Rattle.replies.specs.Reply.{half, no_record, packed, reply_number, record_number}

-- the halves of a number come back
halves : (a b c d : ℕ) → a < half → c < half → packed a b ≡ packed c d → (a ≡ c) × (b ≡ d)
halves a b c d p q e = (omega arith, omega arith)

-- ---- a refusal comes back from its number

condition_of : ℕ → Condition
condition_of k =
    cond (eqb k 1) BadLength
    (cond (eqb k 2) TooLong
    (cond (eqb k 3) UnlistedKind
    (cond (eqb k 4) Misplaced
    (cond (eqb k 5) TooDeep
    (cond (eqb k 6) BadSpan
    (cond (eqb k 7) NoRoom
    (cond (eqb k 8) NoRoot
    (cond (eqb k 9) BadLine
    (cond (eqb k 10) BadOffsets WrongParent)))))))))

condition-back : (c : Condition) → condition_of (number_of c) ≡ c
unfolding condition_of
condition-back BadLength = refl
condition-back TooLong = refl
condition-back UnlistedKind = refl
condition-back Misplaced = refl
condition-back TooDeep = refl
condition-back BadSpan = refl
condition-back NoRoom = refl
condition-back NoRoot = refl
condition-back BadLine = refl
condition-back BadOffsets = refl
condition-back WrongParent = refl

refusal-back : (r s : Refusal) → packed (number_of r.condition) r.detail ≡ packed (number_of s.condition) s.detail → r ≡ s
refusal-back r s e =
    let h = halves _ r.detail _ s.detail (omega (arith, numbered r.condition)) (omega (arith, numbered s.condition)) e in
    same (sym (condition-back r.condition) ∙ ap condition_of h.0 ∙ condition-back s.condition) h.1
  where
    same : {c c' : Condition} {d d' : ℕ} → c ≡ c' → d ≡ d' → ◌≡◌ {A = Refusal} (record { condition = c; detail = d }) (record { condition = c'; detail = d' })
    same p q = rw (p, q)

-- ---- a reply comes back from its number, where its answer does from its half

reply-apart : {A : Type 0} (high : A → ℕ) (v w : Result A Refusal) → ((a b : A) → v ≡ Ok a → w ≡ Ok b → high a ≡ high b → a ≡ b)
    → reply_number high v ≡ reply_number high w → v ≡ w
unfolding reply_number
reply-apart high (Ok a) (Ok b) h e = ap Ok (h a b refl refl (omega arith))
reply-apart high (Ok a) (Err r) h e = absurd (omega (arith, numbered r.condition))
reply-apart high (Err r) (Ok b) h e = absurd (omega (arith, numbered r.condition))
reply-apart high (Err r) (Err s) h e = ap Err (refusal-back r s e)

-- a record below `none`, or none
abbrev Below : Option ℕ → Type 0
Below x = (i : ℕ) → x ≡ Some i → i < no_record

record-apart : (x y : Option ℕ) → Below x → Below y → record_number x ≡ record_number y → x ≡ y
record-apart None None p q e = refl
record-apart None (Some j) p q e = absurd (omega (arith, q j refl))
record-apart (Some i) None p q e = absurd (omega (arith, p i refl))
record-apart (Some i) (Some j) p q e = ap Some e

-- THE THEOREM
pub apart : Apart
apart =
    record {
      checks = λ t t' n n' e. reply-apart _ _ _ (λ a b p q s. refl) e;
      hints = λ t t' m m' n n' e. reply-apart _ _ _ (λ a b p q s. record-apart a b (of-hint t n m a p) (of-hint t' n' m' b q) s) e;
      statements = λ t t' n n' o o' e. reply-apart _ _ _ (λ a b p q s. record-apart a b (of-statement t n o a p) (of-statement t' n' o' b q) s) e;
      roots = λ t t' n n' o o' e. reply-apart _ _ _ (λ a b p q s. s) e;
    }
  where
    of-hint : (t : List ℕ) (n : ℕ) (m : List ℕ) (a : Option ℕ) → reply (verdict t n (length m)) (hint_of m (stack_left t)) ≡ Ok a → Below a
    of-hint t n m a p i e = let g = given_is _ _ (sym p) in omega (arith, hint-within t n (length m) g.0 m (sym g.1 ∙ e))

    of-statement : (t : List ℕ) (n o : ℕ) (a : Option ℕ) → reply (verdict t n 0) (enclosing_at t o) ≡ Ok a → Below a
    of-statement t n o a p i e = let g = given_is _ _ (sym p) in omega (arith, statement-within t n 0 o g.0 (sym g.1 ∙ e))
