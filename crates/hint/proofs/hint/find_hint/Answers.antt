use Rattle.brackets.proofs.BracketLaws.{hint-is}
use mathlib.Core.Path.{◌∙◌}
use Rattle.hint.proofs.hint.find_hint.Goals as goal

pub returns : goal.returns
returns c = c.hint_on.ensures ∙ hint-is _ _ c.fill.ensures.0
