-- The room that the entry of everything at a cursor takes.
-- Definitions only.
use Rattle.std.specs.Prelude.{ℕ, ◌*◌}
use Rattle.lent.specs.Numbers.{number_bytes}

-- how many bytes the entry takes: nine numbers
abbrev pub everything_bytes : ℕ
everything_bytes = 9 * number_bytes
