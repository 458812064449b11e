-- How much of an input matters. A frame without a fault has 37,898 bytes at most: 8,193 of the source's line, 9 of the offset's, and 29 of each
-- of 1,024 records. So an input is told by its first 37,899 bytes, and a program that reads no more cuts nothing off silently.
-- Definitions only; the theorem is `enough` in proofs/Enough.antt.
use Rattle.std.specs.Prelude.{ℕ, ◌+◌, ◌*◌, ◌≡◌, List, take}
use Rattle.lines.specs.Lines.{most_bytes, most_lines, offset_digits, record_digits}
use Rattle.frame.specs.Glance.{glanced}

-- the source's line, the offset's, a line for each record, and one byte more
abbrev pub input_room : ℕ
input_room = (2 * most_bytes + 1) + (offset_digits + 1) + most_lines * (record_digits + 1) + 1

-- an input is told by its first bytes
abbrev pub Enough : Type 0
Enough = (input : List ℕ) → glanced (take input_room input) ≡ glanced input
