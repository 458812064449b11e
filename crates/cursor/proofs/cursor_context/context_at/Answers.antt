use Rattle.cursor.proofs.Rules.{analyzed-context}
use mathlib.Core.Path.{◌∙◌}
use native.Mathlib.Omega.{arith}
use Rattle.cursor.proofs.cursor_context.context_at.Goals as goal

pub analyze_path-requires : goal.analyze_path-requires
analyze_path-requires c = (omega arith, c.find_node_path-path.ensures.1, c.requires.2)

pub returns : goal.returns
returns c = c.analyze_path.ensures ∙ rw c.find_node_path-path.ensures.0 (analyzed-context _ _ _)
