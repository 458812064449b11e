use mathlib.Core.Path.{refl}
use Rattle.names.proofs.NameLaws.{as_said}
use Rattle.names.proofs.names.is_as.Goals as goal

pub returns : goal.returns
returns c = as_said _ _ c.text_of.ensures refl c.says.ensures
