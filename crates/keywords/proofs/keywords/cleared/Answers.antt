use mathlib.Core.Path.{refl}
use native.Mathlib.Omega.{arith}
use Rattle.text.specs.Text.{upper}
use Rattle.keywords.proofs.WordLaws.{mask-folds}
use Rattle.keywords.proofs.keywords.cleared.Goals as goal

-- computed at each byte

pub returns : goal.returns
unfolding upper
returns c = mask-folds _ refl c.args.b (omega arith)
