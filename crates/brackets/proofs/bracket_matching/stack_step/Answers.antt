use mathlib.Core.Path.{refl}
use Rattle.brackets.proofs.BracketLaws.{step-low, step-high, step-open, step-empty, step-pop, step-drop}
use native.Mathlib.Omega.{arith}
use Rattle.brackets.proofs.bracket_matching.stack_step.Goals as goal

pub returns-in-137-to-139 : goal.returns-in-137-to-139
returns-in-137-to-139 c = ((step-open _ _ _ _ refl (omega arith) (omega arith) (omega arith)).0, omega arith)

pub returns-then-n-eq0 : goal.returns-then-n-eq0
returns-then-n-eq0 c = (step-empty _ c.args.n _ _ refl (omega arith) (omega arith) c.if-n-eq0.true, omega arith)

pub returns-then-top-kind : goal.returns-then-top-kind
returns-then-top-kind c = ((step-pop _ _ _ _ refl (omega arith) (omega arith) (omega arith) (omega arith)).0, omega arith)

pub returns-else-top-kind : goal.returns-else-top-kind
returns-else-top-kind c = (step-drop _ c.args.n _ _ refl (omega arith) (omega arith) (omega arith) (λ e. omega arith), omega arith)

pub returns-in_default : goal.returns-in_default
returns-in_default c = (step-low _ _ _ (omega arith), omega arith)

pub returns-in_default-2 : goal.returns-in_default-2
returns-in_default-2 c = (step-high _ _ _ (omega arith), omega arith)
