use mathlib.Core.Path.{ap, ◌∙◌}
use mathlib.Core.List.{reverse}
use lib.ListN.{length}
use Rattle.brackets.proofs.BracketLaws.{stack-length, take-stack}
use native.Mathlib.Omega.{arith}
use Rattle.brackets.proofs.bracket_matching.BracketStack.openers.Goals as goal

pub returns : goal.returns
returns c =
    let s = c.self.inside in
    (take-stack s.slots s.len (omega arith) ∙ ap reverse c.self.view_is, omega (arith, stack-length s.slots s.len, ap length c.self.view_is))
