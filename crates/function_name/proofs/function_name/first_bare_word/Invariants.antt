use Rattle.forest.proofs.Walking.{Walks}
use Rattle.tokens.specs.Function.{bare_word_in}
use Prim.Native.Nat.{◌-◌, ◌≤◌}
use Rattle.function_name.proofs.function_name.first_bare_word.Given as goal

abbrev pub invariant-loop-i : goal.invariant-loop-i
invariant-loop-i l = ((1 ≤ l.i) × (l.i ≤ l.m)) × Walks l.s l.i bare_word_in bare_word_in

abbrev pub decreases-loop-i : goal.decreases-loop-i
decreases-loop-i l = l.m - l.i
