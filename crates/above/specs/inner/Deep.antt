-- What lets the list be counted without a walk. A reader of the promise needs none of it.
-- Definitions only.
use Rattle.std.specs.Prelude.{ℕ, ◌≡◌, List, length}
use Rattle.records.specs.Table.{depth_at}
use Rattle.forest.specs.Above.{above}

-- as many records stand above record n as it is deep
abbrev pub Deep : List ℕ → ℕ → Type 0
Deep t n = length (above t n) ≡ depth_at t n
