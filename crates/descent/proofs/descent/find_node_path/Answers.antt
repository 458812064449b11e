use Rattle.path.proofs.StartLaws.{starts_first}
use native.Mathlib.Omega.{arith}
use Rattle.descent.proofs.descent.find_node_path.Goals as goal

pub path_from-requires : goal.path_from-requires
path_from-requires c = (omega arith, starts_first _ _ (omega arith) c.child_from-first.ensures)

pub returns : goal.returns
returns c = c.path_from.ensures
