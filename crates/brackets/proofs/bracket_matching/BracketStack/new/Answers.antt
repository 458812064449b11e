use mathlib.Core.Path.{refl}
use Rattle.brackets.specs.inner.BracketStack.{stack_of}
use Rattle.brackets.proofs.bracket_matching.BracketStack.new.Goals as goal

pub returns : goal.returns
unfolding stack_of
returns c = refl
