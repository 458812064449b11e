use Rattle.forest.proofs.Walking.{Walks}
use Rattle.tokens.specs.Function.{function_name}
use Prim.Native.Nat.{◌-◌, ◌≤◌}
use Rattle.function_name.proofs.function_name.extract_function_name.Given as goal

abbrev pub invariant-loop-i : goal.invariant-loop-i
invariant-loop-i l = ((1 ≤ l.i) × (l.i ≤ l.m)) × Walks l.s l.i function_name function_name

abbrev pub decreases-loop-i : goal.decreases-loop-i
decreases-loop-i l = l.m - l.i
