-- Numbers that fit 32 bits, so that four bytes hold them whole.
-- Definitions only.
use Rattle.std.specs.Prelude.{ℕ, ◌<◌, List, [], ◌∷◌}
use Rattle.lent.specs.Numbers.{word_limit}

-- each of some numbers fits
unfoldable pub Fit32 : List ℕ → Type 0
Fit32 [] = Unit
Fit32 (v ∷ vs) = (v < word_limit) × Fit32 vs

-- each number of each entry of a list fits
unfoldable pub AllFit32 : {E : Type 0} → (E → List ℕ) → List E → Type 0
AllFit32 row [] = Unit
AllFit32 row (e ∷ es) = Fit32 (row e) × AllFit32 row es
