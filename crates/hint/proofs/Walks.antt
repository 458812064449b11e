-- What a walk over the windows of a message finds, and one down a stack.
-- Assumes nothing.
use Prim.Native.Nat.{ℕ, ◌%◌, ◌/◌, ◌≤◌, ◌<◌}
use mathlib.Core.Path.{◌≡◌, refl, ap, ◌∙◌}
use mathlib.Core.Bool.{Bool, true, false, cond}
use mathlib.Core.List.{List, [], ◌∷◌, reverse, reverse-reverse}
use mathlib.Core.Logic.{◌⊎◌, inl, inr}
use native.Mathlib.Omega.{arith}
use borrow.Author.Tests.{le-leb, lt-leb}
use lib.Dec.{eqb, leb}
use lib.ListN.{length, take, drop}
use Rattle.std.specs.List.{list_any, find}
use Rattle.std.specs.Prelude.{Option, Some, None}
use Rattle.std.specs.declared.slice.Windows.{Windows}
use Rattle.std.specs.Slice.Iter.{windows_steps, windows_rest, windows_size}
use Rattle.std.proofs.lemmas.Iterator.{YieldsList}
use Rattle.std.proofs.lemmas.Iterator.Splits.{YieldsList-from_shown_while}
use Rattle.lent.proofs.Cases.{lt-or-le}
use Rattle.text.specs.Text.{same}
use Rattle.brackets.specs.Brackets.{holding}
use Rattle.brackets.specs.inner.BracketStack.{last_by}
use Rattle.brackets.proofs.BracketLaws.{holding-none}

-- ---- the windows of n elements, from the first on
abbrev pub windows_of : ℕ → List ℕ → List (List ℕ)
windows_of n [] = []
windows_of n (x ∷ xs) = cond (leb n (length (x ∷ xs))) (take n (x ∷ xs) ∷ windows_of n xs) []

-- what a walk over windows has left
shown : Windows ℕ → List (List ℕ)
shown s = windows_of (windows_size s) (windows_rest s)

short : (n : ℕ) (xs : List ℕ) → length xs < n → windows_of n xs ≡ []
short n [] h = refl
short n (x ∷ xs) h = rw (lt-leb n (length (x ∷ xs)) h)

turn : (n : ℕ) (xs : List ℕ) → 0 < n → n ≤ length xs → windows_of n xs ≡ take n xs ∷ windows_of n (drop 1 xs)
turn n [] p h = absurd (omega arith)
turn n (x ∷ xs) p h = rw (le-leb n (length (x ∷ xs)) h)

pub windows-shown : {s : Windows ℕ} (n : ℕ) (xs : List ℕ) → windows_rest s ≡ xs → windows_size s ≡ n → 0 < n → YieldsList windows_steps (λ x. x.now) s (windows_of n xs)
unfolding shown
windows-shown {s} n xs r e p =
    rw (← r, ← e)
    (YieldsList-from_shown_while windows_steps (λ x. x.now) shown (λ t. 0 < windows_size t)
    (λ t u q g. ap length (short (windows_size t) (windows_rest t) g.1.0))
    (λ t x u q g. (omega (arith, g.0), turn (windows_size t) (windows_rest t) q g.1.0 ∙ rw (g.1.1, g.0, g.1.2)))
    s (omega (arith, e)))

pub holding-windows : (w m : List ℕ) → 0 < length w → list_any (λ (p : List ℕ). same p w) (windows_of (length w) m) ≡ holding w m
unfolding holding
holding-windows w [] p = holding-none w [] refl p
holding-windows w (b ∷ m) p = go (lt-or-le (length (b ∷ m)) (length w)) (holding-windows w m p)
  where
    go : (length (b ∷ m) < length w) ⊎ (length w ≤ length (b ∷ m))
        → list_any (λ (p : List ℕ). same p w) (windows_of (length w) m) ≡ holding w m
        → list_any (λ (p : List ℕ). same p w) (windows_of (length w) (b ∷ m)) ≡ holding w (b ∷ m)
    go (inl h) on = rw (lt-leb (length w) (length (b ∷ m)) h) (holding-none w (b ∷ m) refl h)
    go (inr h) on = rw (le-leb (length w) (length (b ∷ m)) h, on)

-- ---- a stack, from its top down

-- the opener that an element holds
abbrev pub opener_of : Option ℕ → Option ℕ
opener_of None = None
opener_of (Some o) = Some (o / 4)

-- an element is of this shape
abbrev pub shaped : ℕ → ℕ → Bool
shaped shape o = eqb (o % 4) shape

last-found : (shape : ℕ) (stack : List ℕ) → opener_of (find (shaped shape) stack) ≡ last_by shape stack
unfolding last_by
last-found shape [] = refl
last-found shape (o ∷ stack) = go (eqb (o % 4) shape) refl (last-found shape stack)
  where
    go : (t : Bool) → eqb (o % 4) shape ≡ t → opener_of (find (shaped shape) stack) ≡ last_by shape stack
        → opener_of (find (shaped shape) (o ∷ stack)) ≡ last_by shape (o ∷ stack)
    go true e on = rw e
    go false e on = rw (e, on)

pub last-down : (shape : ℕ) (stack : List ℕ) {r : Option ℕ} {openers : List ℕ} → openers ≡ reverse stack → r ≡ find (shaped shape) (reverse openers)
    → opener_of r ≡ last_by shape stack
last-down shape stack o e = rw e (rw (o, reverse-reverse stack) (last-found shape stack))
