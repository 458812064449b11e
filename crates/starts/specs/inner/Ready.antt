-- What a context is asked of: a table as the check leaves it, and at most 64 offsets, of b bytes. A reader of the promise needs none of it.
-- Definitions only.
use Rattle.std.specs.Prelude.{ℕ, ◌*◌, ◌/◌, ◌≤◌, ◌<◌, ◌≡◌, List, length, get_or}
use Rattle.records.specs.Table.{count}
use Rattle.lent.specs.Numbers.{word, word_limit}
use Rattle.conditions.specs.Conditions.{most_offsets, offset_bytes}
use Rattle.forest.specs.inner.Ordered.{Ordered}
use Rattle.path.specs.inner.Starts.{Starts}

abbrev pub Ready : List ℕ → ℕ → Type 0
Ready t b = ((0 < count t) × (count t < word_limit) × (b / offset_bytes ≤ most_offsets)) × Ordered t

-- for each offset, where its search among record 0's children may begin
pub record Begun (t os starts : List ℕ) : Type 0 where
  pub wide : length starts ≡ most_offsets
  pub each : (c : ℕ) → c < length os / offset_bytes → Starts t (word os (offset_bytes * c)) (get_or starts c 0)
