use Rattle.function_name.proofs.Functions.{name-here, name-next}
use Rattle.forest.proofs.Walking.{walks-none, walks-start, walks-end}
use Rattle.tokens.specs.Function.{function_name}
use native.Mathlib.Omega.{arith}
use Rattle.function_name.proofs.function_name.extract_function_name.Goals as goal

pub returns-then-m-eq0 : goal.returns-then-m-eq0
unfolding function_name
returns-then-m-eq0 c = walks-none _ function_name (omega arith)

pub loop-i-init : goal.loop-i-init
unfolding function_name
loop-i-init c = (omega arith, walks-start _ function_name (omega arith) c.child_from-i.ensures)

pub returns-in-Some : goal.returns-in-Some
unfolding function_name
returns-in-Some c = name-here c.loop-i.invariant.1 (omega arith) c.name_at.ensures c.in-Some.is

pub loop-i-preserved : goal.loop-i-preserved
unfolding function_name
loop-i-preserved c =
    (omega arith, name-next c.loop-i.invariant.1 (omega arith) c.name_at.ensures c.in_default.is c.child_from-i-in-loop-i.ensures)

pub returns : goal.returns
unfolding function_name
returns c = walks-end c.loop-i.invariant.1 (omega arith)
