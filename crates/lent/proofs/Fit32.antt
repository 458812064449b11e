-- Numbers that fit 32 bits are read back from their four bytes, and lists of entries that fit are put together.
--     word_back, word_fits                        a number, from its bytes; one of any four bytes
--     fit_append, fit-chosen, fit-lists           rows, and lists of entries
-- Assumes nothing.
use Prim.Native.Nat.{ℕ, ◌+◌, ◌*◌, ◌/◌, ◌%◌, ◌<◌}
use mathlib.Core.Path.{◌≡◌}
use mathlib.Core.Bool.{Bool, true, false, cond}
use mathlib.Core.List.{List, [], ◌∷◌, ◌++◌}
use native.Mathlib.Omega.{arith}
use native.Mathlib.Nat.{div-div-eq-div-mul}
use Rattle.lent.specs.Numbers.{word_limit, OfBytes, word, le4}
use Rattle.lent.specs.Fit32.{Fit32, AllFit32}

-- ---- a number

-- two bytes, and two halves, of a number
low : (x : ℕ) → x % 256 + x / 256 % 256 * 256 ≡ x % 65536
low x = omega arith

whole : (x : ℕ) → x < word_limit → x % 65536 + x / 65536 % 65536 * 65536 ≡ x
whole x h = omega arith

joined : (a b c d l h r : ℕ) → a + b * 256 ≡ l → c + d * 256 ≡ h → l + h * 65536 ≡ r → a + b * 256 + c * 65536 + d * 16777216 ≡ r
joined a b c d l h r p q s = omega arith

pub word_back : (v : ℕ) (rest : List ℕ) → v < word_limit → word (le4 v ++ rest) 0 ≡ v
unfolding word
word_back v rest h =
    joined (v % 256) (v / 256 % 256) (v / 65536 % 256) (v / 16777216 % 256) (v % 65536) (v / 65536 % 65536) v
    (low v) (rw (← div-div-eq-div-mul v 65536 256) (low (v / 65536))) (whole v h)

pub word_fits : (t : List ℕ) (at : ℕ) → OfBytes t → word t at < word_limit
unfolding word
word_fits t at b = omega (arith, b at, b (at + 1), b (at + 2), b (at + 3))

-- ---- rows and lists

pub fit_append : (vs ws : List ℕ) → Fit32 vs → Fit32 ws → Fit32 (vs ++ ws)
unfolding Fit32
fit_append [] ws p q = q
fit_append (v ∷ vs) ws p q = (p.0, fit_append vs ws p.1 q)

module _ {E : Type 0} (row : E → List ℕ) where
  pub fit-lists : (xs ys : List E) → AllFit32 row xs → AllFit32 row ys → AllFit32 row (xs ++ ys)
  unfolding AllFit32
  fit-lists [] ys p q = q
  fit-lists (x ∷ xs) ys p q = (p.0, fit-lists xs ys p.1 q)

  pub fit-chosen : (b : Bool) (xs ys : List E) → AllFit32 row xs → AllFit32 row ys → AllFit32 row (cond b xs ys)
  fit-chosen true xs ys p q = p
  fit-chosen false xs ys p q = q
