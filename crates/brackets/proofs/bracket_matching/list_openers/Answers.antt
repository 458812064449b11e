use Rattle.brackets.proofs.BracketLaws.{openers-short, openers-full}
use mathlib.Core.Path.{ap, ◌∙◌}
use lib.ListN.{length, length-reverse}
use native.Mathlib.Omega.{arith}
use Rattle.brackets.proofs.bracket_matching.list_openers.Goals as goal

pub returns-then-out-n : goal.returns-then-out-n
returns-then-out-n c =
    rw c.refused.ensures (openers-short _ _ c.fill.ensures.0 (ap length c.openers-n.ensures.0 ∙ length-reverse c.fill.new.self) (omega arith))

pub returns : goal.returns
returns c =
    openers-full _ _ c.fill.ensures.0 (ap length c.openers-n.ensures.0 ∙ length-reverse c.fill.new.self) c.put_openers.ensures (omega arith)
