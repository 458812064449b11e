use Rattle.cursor.proofs.Rules.{analyzed-context}
use mathlib.Core.Path.{◌∙◌}
use native.Mathlib.Omega.{arith}
use Rattle.cursor.proofs.cursor_context.context_from.Goals as goal

pub path_from-path-requires : goal.path_from-path-requires
path_from-path-requires c = (omega arith, c.requires.2)

pub analyze_path-requires : goal.analyze_path-requires
analyze_path-requires c = (omega arith, c.path_from-path.ensures.1, c.requires.1)

pub returns : goal.returns
returns c = c.analyze_path.ensures ∙ rw c.path_from-path.ensures.0 (analyzed-context _ _ _)
