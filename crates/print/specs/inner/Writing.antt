-- How a text is written, piece by piece. A reader of what glance prints needs none of it.
-- Definitions only.
use Rattle.std.specs.Prelude.{ℕ, zero, suc, ◌+◌, ◌*◌, ◌≡◌, List, [], ◌∷◌, ◌++◌, length}
use Rattle.std.proofs.lemmas.List.Edits.{sets}
use Rattle.lent.specs.Numbers.{word, number_bytes}
use Rattle.print.specs.Printed.{printed}

-- what a writer of text does: xs stand in out from byte `at` on, and the next byte goes to byte at'
pub record Put (xs out : List ℕ) (at : ℕ) (out' : List ℕ) (at' : ℕ) : Type 0 where
  pub bytes : out' ≡ sets out at xs
  pub next : at' ≡ at + length xs

-- n numbers of a list, from byte `at` on
unfoldable pub words : List ℕ → ℕ → ℕ → List ℕ
words l at zero = []
words l at (suc n) = word l at ∷ words l (at + number_bytes) n

-- k entries of a list, of w numbers each, as lines
unfoldable pub printed_words : ℕ → ℕ → ℕ → List ℕ → ℕ → ℕ → List ℕ
printed_words letter n w l at zero = []
printed_words letter n w l at (suc k) = printed letter n (words l at w) ++ printed_words letter n w l (at + number_bytes * w) k

-- no line is longer: a letter, thirteen numbers of ten digits with a space before each, LF
abbrev pub line_room : ℕ
line_room = 1 + 13 * 11 + 1
