use Prim.Native.Nat.{◌+◌, ◌≤◌}
use mathlib.Core.Path.{◌≡◌}
use lib.ListN.{length}
use Rattle.brackets.specs.inner.BracketStack.{stack_of, stepped_over}
use Rattle.brackets.proofs.bracket_matching.collect_brackets.Given as goal

abbrev pub invariant-loop-i : goal.invariant-loop-i
invariant-loop-i l = ((l.top ≤ l.n + l.i) × (length l.stack ≡ length l.initial.stack))
    × (stack_of l.stack l.top ≡ stepped_over (stack_of l.initial.stack l.n) l.part.bytes.now l.part.base l.i)
