use Rattle.binders.proofs.Turns.{names-item}
use native.Mathlib.Omega.{arith}
use Rattle.binders.proofs.binders.collect_ctes.Goals as goal

pub returns : goal.returns
returns c = (rw (← names-item _ _) c.collect_bound.ensures.0, omega arith)
