-- How many bytes a root's clauses can take, so that no place wraps.
-- Definitions only. A reader of the promise needs none of them.
use Rattle.std.specs.Prelude.{ℕ, ◌*◌}
use Rattle.conditions.specs.Conditions.{most_records}
use Rattle.items.specs.inner.Room.{clause_bytes}

-- of a root's clauses
abbrev pub root_bytes : ℕ
root_bytes = clause_bytes * most_records
