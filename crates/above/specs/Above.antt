-- Document 02, §8: looking upward. The list is `above` of the table (table/specs/Above.antt); here is how an entry is written.
-- Definitions only.
use Rattle.std.specs.Prelude.{ℕ, List, [], ◌∷◌}

-- an entry is one number: the record
abbrev pub above_row : ℕ → List ℕ
above_row i = i ∷ []
