-- The text of a token.
-- Assumes nothing.
use Prim.Native.Nat.{ℕ}
use mathlib.Core.Path.{◌≡◌, refl, ap}
use mathlib.Core.Bool.{Bool, ◌&&◌}
use mathlib.Core.List.{List, [], ◌∷◌}
use lib.Dec.{eqb}
use lib.Pointwise.{pointwise}
use Rattle.text.specs.Text.{same}

-- `==` of two texts
pub texts-equal : (t w : List ℕ) → pointwise eqb t w ≡ same t w
texts-equal [] [] = refl
texts-equal [] (y ∷ w) = refl
texts-equal (x ∷ t) [] = refl
texts-equal (x ∷ t) (y ∷ w) = ap (λ (b : Bool). eqb x y && b) (texts-equal t w)
