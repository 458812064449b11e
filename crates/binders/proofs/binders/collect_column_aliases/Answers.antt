use Rattle.binders.proofs.Turns.{names-alias}
use native.Mathlib.Omega.{arith}
use Rattle.binders.proofs.binders.collect_column_aliases.Goals as goal

pub returns : goal.returns
returns c = (rw (← names-alias _ _) c.collect_bound.ensures.0, omega arith)
