-- What a parent's kind makes of a word, range by range.
-- Assumes nothing.
use Prim.Native.Nat.{ℕ, ◌≤◌}
use mathlib.Core.Path.{◌≡◌, ap}
use mathlib.Core.Bool.{Bool, true, false}
use mathlib.Core.List.{List}
use mathlib.Core.Logic.{⊎_elim}
use native.Mathlib.Omega.{arith}
use borrow.Author.Tests.{le-leb, lt-leb, ne_eqb}
use Rattle.std.specs.Prelude.{Option, Some, None}
use Rattle.text.specs.Text.{text}
use Rattle.lent.proofs.Cases.{lt-or-le}
use Rattle.classes.specs.declared.token_class.TokenClass.TheVariants.{Keyword, Function, StringLiteral, Number, Comment, Operator, Variable, TypeName, Parameter, Property}
use Rattle.classes.specs.declared.token_class.TokenClass.{TokenClass}
use Rattle.classes.specs.TokenClass.{between, judged, bareword, by_parent, class_of}

pub inside : (a b k : ℕ) → a ≤ k → k ≤ b → between a b k ≡ true
unfolding between
inside a b k h g = rw (le-leb a k h, le-leb k b g)

pub outside : (a b k : ℕ) → (a ≤ k → k ≤ b → ⊥) → between a b k ≡ false
unfolding between
outside a b k h =
    ⊎_elim
    (λ g. rw (lt-leb a k g))
    (λ g. rw (le-leb a k g) (⊎_elim (λ l. lt-leb k b l) (λ l. absurd (h g l)) (lt-or-le b k)))
    (lt-or-le k a)

-- ---- a Quoted
module _ (p : ℕ) where
  pub by-function : 43 ≤ p → p ≤ 45 → Function ≡ by_parent p
  unfolding by_parent
  by-function h g = rw (inside 43 45 p h g)

  pub by-type : 40 ≤ p → p ≤ 42 → TypeName ≡ by_parent p
  unfolding by_parent
  by-type h g = rw (outside 43 45 p (λ x y. omega arith), inside 40 42 p h g)

  pub by-table : 33 ≤ p → p ≤ 35 → Property ≡ by_parent p
  unfolding by_parent
  by-table h g = rw (outside 43 45 p (λ x y. omega arith), outside 40 42 p (λ x y. omega arith), inside 33 35 p h g)

  pub by-definition : 50 ≤ p → p ≤ 51 → Property ≡ by_parent p
  unfolding by_parent
  by-definition h g =
      rw (outside 43 45 p (λ x y. omega arith), outside 40 42 p (λ x y. omega arith), outside 33 35 p (λ x y. omega arith), inside 50 51 p h g)

  pub by-other : (40 ≤ p → p ≤ 45 → ⊥) → (33 ≤ p → p ≤ 35 → ⊥) → (50 ≤ p → p ≤ 51 → ⊥) → Variable ≡ by_parent p
  unfolding by_parent
  by-other h g l = rw (outside 43 45 p (λ x y. h (omega arith) y), outside 40 42 p (λ x y. h x (omega arith)), outside 33 35 p g, outside 50 51 p l)

-- ---- a BareWord, which is a keyword or not
module _ (p : ℕ) where
  pub word-type : (k : Bool) → 40 ≤ p → p ≤ 42 → Some TypeName ≡ judged k p
  unfolding judged
  word-type k h g = rw (inside 40 42 p h g)

  pub word-parameter : (k : Bool) → p ≡ 49 → Some Parameter ≡ judged k p
  unfolding judged between
  word-parameter true e = rw e
  word-parameter false e = rw e

  pub word-keyword : (40 ≤ p → p ≤ 42 → ⊥) → (p ≡ 49 → ⊥) → Some Keyword ≡ judged true p
  unfolding judged
  word-keyword h g = rw (outside 40 42 p h, ne_eqb p 49 g)

  pub word-function : 43 ≤ p → p ≤ 45 → Some Function ≡ judged false p
  unfolding judged
  word-function h g = rw (outside 40 42 p (λ x y. omega arith), inside 43 45 p h g)

  pub word-table : 33 ≤ p → p ≤ 35 → Some Property ≡ judged false p
  unfolding judged
  word-table h g = rw (outside 40 42 p (λ x y. omega arith), outside 43 45 p (λ x y. omega arith), inside 33 35 p h g)

  pub word-definition : 50 ≤ p → p ≤ 54 → Some Property ≡ judged false p
  unfolding judged
  word-definition h g =
      rw (outside 40 42 p (λ x y. omega arith), outside 43 45 p (λ x y. omega arith), outside 33 35 p (λ x y. omega arith), inside 50 54 p h g)

  pub word-alias : p ≡ 36 → Some Variable ≡ judged false p
  unfolding judged between
  word-alias e = rw e

  pub word-column : 46 ≤ p → p ≤ 48 → Some Variable ≡ judged false p
  unfolding judged
  word-column h g =
      rw (
        outside 40 42 p (λ x y. omega arith),
        outside 43 45 p (λ x y. omega arith),
        outside 33 35 p (λ x y. omega arith),
        outside 50 54 p (λ x y. omega arith),
        ne_eqb p 36 (λ e. omega arith),
        inside 46 48 p h g,
      )

  pub word-expression : p ≡ 55 → Some Variable ≡ judged false p
  unfolding judged between
  word-expression e = rw e

  pub word_none : (33 ≤ p → p ≤ 35 → ⊥) → (40 ≤ p → p ≤ 48 → ⊥) → (50 ≤ p → p ≤ 54 → ⊥) → (p ≡ 36 → ⊥) → (p ≡ 49 → ⊥) → (p ≡ 55 → ⊥)
      → None ≡ judged false p
  unfolding judged
  word_none t c d x y z =
      rw (
        outside 40 42 p (λ h g. c h (omega arith)),
        outside 43 45 p (λ h g. c (omega arith) (omega arith)),
        outside 33 35 p t,
        outside 50 54 p d,
        ne_eqb p 36 x,
        outside 46 48 p (λ h g. c (omega arith) g),
        ne_eqb p 49 y,
        ne_eqb p 55 z,
      )

-- ---- a token, by its kind
module _ (source : List ℕ) (p k a b : ℕ) where
  pub token-comment : k ≡ 130 → Some Comment ≡ class_of source p k a b
  unfolding class_of
  token-comment e = rw e

  pub token-number : k ≡ 133 → Some Number ≡ class_of source p k a b
  unfolding class_of
  token-number e = rw e

  pub token-quoted : {c : TokenClass} → k ≡ 132 → c ≡ by_parent p → Some c ≡ class_of source p k a b
  unfolding class_of between
  token-quoted e q = rw e (ap Some q)

  pub token-word : {c : Option TokenClass} {w : List ℕ} → k ≡ 131 → w ≡ text source a b → c ≡ bareword w p → c ≡ class_of source p k a b
  unfolding class_of between
  token-word e t q = rw e (rw t at q)

  pub token-string : 134 ≤ k → k ≤ 135 → Some StringLiteral ≡ class_of source p k a b
  unfolding class_of
  token-string h g = rw (ne_eqb k 130 (λ e. omega arith), ne_eqb k 133 (λ e. omega arith), inside 134 135 k h g)

  pub token-operator : 143 ≤ k → k ≤ 157 → Some Operator ≡ class_of source p k a b
  unfolding class_of
  token-operator h g =
      rw (ne_eqb k 130 (λ e. omega arith), ne_eqb k 133 (λ e. omega arith), outside 134 135 k (λ x y. omega arith), inside 143 157 k h g)

  pub token-none : (k ≡ 130 → ⊥) → (k ≡ 133 → ⊥) → (k ≡ 132 → ⊥) → (k ≡ 131 → ⊥) → (134 ≤ k → k ≤ 135 → ⊥) → (143 ≤ k → k ≤ 157 → ⊥) → None ≡ class_of source p k a b
  unfolding class_of
  token-none c n q w s o = rw (ne_eqb k 130 c, ne_eqb k 133 n, outside 134 135 k s, outside 143 157 k o, ne_eqb k 132 q, ne_eqb k 131 w)
