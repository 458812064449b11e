-- A test on a range of kinds is one on the list of them: for holding document 01's ranges against the Rust's alternatives.
-- Assumes nothing.
use Prim.Native.Nat.{ℕ, zero, suc, ◌+◌, ◌≤◌, ◌<◌}
use mathlib.Core.Path.{◌≡◌}
use mathlib.Core.Bool.{◌&&◌}
use mathlib.Core.List.{List, [], ◌∷◌}
use mathlib.Core.Logic.{⊎_elim}
use native.Mathlib.Omega.{arith}
use borrow.Author.Tests.{le-leb, lt-leb, eq-eqb, ne_eqb}
use lib.Dec.{leb}
use Rattle.lent.proofs.Cases.{lt-or-le}
use Rattle.path.specs.Path.{one_of}

-- n kinds from a on
abbrev pub kinds_from : ℕ → ℕ → List ℕ
kinds_from a zero = []
kinds_from a (suc n) = a ∷ kinds_from (a + 1) n

-- a to a + n
pub range-list : (n a k : ℕ) → (leb a k && leb k (a + n)) ≡ one_of (kinds_from a (suc n)) k
range-list zero a k =
    ⊎_elim
    (λ (h : k < a). rw (lt-leb a k h, ne_eqb k a (λ e. omega arith)))
    (λ (h : a ≤ k).
    ⊎_elim
    (λ (g : a < k). rw (le-leb a k h, lt-leb k (a + 0) (omega arith), ne_eqb k a (λ e. omega arith)))
    (λ (g : k ≤ a). rw (le-leb a k h, le-leb k (a + 0) (omega arith), eq-eqb k a (omega arith)))
    (lt-or-le a k))
    (lt-or-le k a)
range-list (suc n) a k =
    rw (← range-list n (a + 1) k)
    (⊎_elim
    (λ (h : k < a). rw (lt-leb a k h, ne_eqb k a (λ e. omega arith), lt-leb (a + 1) k (omega arith)))
    (λ (h : a ≤ k).
    ⊎_elim
    (λ (g : a < k).
    ⊎_elim
    (λ (l : a + suc n < k). rw (le-leb a k h, ne_eqb k a (λ e. omega arith), le-leb (a + 1) k (omega arith), lt-leb k (a + suc n) l, lt-leb k (a + 1 + n) (omega arith)))
    (λ (l : k ≤ a + suc n). rw (le-leb a k h, ne_eqb k a (λ e. omega arith), le-leb (a + 1) k (omega arith), le-leb k (a + suc n) l, le-leb k (a + 1 + n) (omega arith)))
    (lt-or-le (a + suc n) k))
    (λ (g : k ≤ a). rw (le-leb a k h, eq-eqb k a (omega arith), le-leb k (a + suc n) (omega arith)))
    (lt-or-le a k))
    (lt-or-le k a))
