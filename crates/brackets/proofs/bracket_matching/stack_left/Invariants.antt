use Prim.Native.Nat.{◌-◌, ◌≤◌}
use mathlib.Core.Path.{◌≡◌}
use mathlib.Core.List.{[]}
use lib.ListN.{length}
use Rattle.brackets.specs.inner.BracketStack.{stack_of, stepped_over}
use Rattle.brackets.proofs.bracket_matching.stack_left.Given as goal

abbrev pub invariant-loop-i : goal.invariant-loop-i
invariant-loop-i l = ((1 ≤ l.i) × (l.i ≤ l.m) × (l.top ≤ l.i) × (length l.stack ≡ length l.initial.stack)) × (stack_of l.stack l.top ≡ stepped_over [] l.table 0 l.i)

abbrev pub decreases-loop-i : goal.decreases-loop-i
decreases-loop-i l = l.m - l.i
