use Rattle.names.proofs.NameLaws.{name-quoted, name-bare, name-none}
use native.Mathlib.Omega.{arith}
use Rattle.names.proofs.names.is_name.Goals as goal

pub returns-then-t-eq-QUOTED_IDENTIFIER : goal.returns-then-t-eq-QUOTED_IDENTIFIER
returns-then-t-eq-QUOTED_IDENTIFIER c = name-quoted _ _ (omega arith)

pub returns-then-t-eq-BARE_WORD : goal.returns-then-t-eq-BARE_WORD
returns-then-t-eq-BARE_WORD c = name-bare _ _ (omega arith) c.is_as.ensures

pub returns : goal.returns
returns c = name-none _ _ (omega arith) (omega arith)
