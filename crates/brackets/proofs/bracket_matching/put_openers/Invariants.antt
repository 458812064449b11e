use Rattle.brackets.specs.inner.BracketStack.{unpacked}
use Rattle.brackets.specs.Brackets.{opener_row}
use Rattle.lent.specs.Lists.{Written}
use lib.ListN.{take}
use mathlib.Core.List.{map}
use mathlib.Core.Path.{◌≡◌}
use Prim.Native.Nat.{◌*◌}
use Rattle.brackets.proofs.bracket_matching.put_openers.Given as goal

abbrev pub invariant-loop-top : goal.invariant-loop-top
invariant-loop-top l = (l.at ≡ 4 * l.top-index) × Written opener_row (map unpacked (take l.top-index l.top-items)) l.initial.out 0 l.out l.at
