use Rattle.lines.proofs.Reading.{value-decimal, value-letter, value_low, value-between, value-high}
use native.Mathlib.Omega.{arith}
use Rattle.lines.proofs.input.value.Goals as goal

pub returns-in-48-to-57 : goal.returns-in-48-to-57
returns-in-48-to-57 c = rw c.from.ensures (value-decimal _ (omega arith) (omega arith))

pub returns-in-97-to-102 : goal.returns-in-97-to-102
returns-in-97-to-102 c = rw c.from-in-97-to-102.ensures (value-letter _ (omega arith) (omega arith))

pub returns-in_default : goal.returns-in_default
returns-in_default c = value_low _ (omega arith)

pub returns-in_default-2 : goal.returns-in_default-2
returns-in_default-2 c = value-between _ (omega arith) (omega arith)

pub returns-in_default-3 : goal.returns-in_default-3
returns-in_default-3 c = value-high _ (omega arith)
