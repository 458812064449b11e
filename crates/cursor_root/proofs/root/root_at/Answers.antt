use mathlib.Core.Path.{◌∙◌}
use Rattle.cursor_root.proofs.Roots.{root-query, root-else}
use Rattle.cursor_root.proofs.root.root_at.Goals as goal

pub returns-in-Some : goal.returns-in-Some
returns-in-Some c = root-query _ _ c.find_node_path-path.ensures.0 c.in-Some.is

pub returns : goal.returns
returns c = c.unwrap_or.ensures ∙ root-else _ _ c.find_node_path-path.ensures.0 c.in_default.is c.find_enclosing_statement.ensures
