-- How many bytes a clause's items can take, so that no place wraps.
-- Definitions only. A reader of the promise needs none of them.
use Rattle.std.specs.Prelude.{ℕ, ◌*◌}
use Rattle.conditions.specs.Conditions.{most_records}
use Rattle.names.specs.Bindings.{binding_bytes}

-- of a clause's items
abbrev pub clause_bytes : ℕ
clause_bytes = binding_bytes * most_records
