use Rattle.lists.proofs.ListLaws.{question, with_rows}
use Rattle.names.specs.Bindings.{binding_row}
use Rattle.scope.proofs.scope.with_names.Goals as goal

pub returns : goal.returns
returns c = question binding_row _ _ _ (with_rows _ _ _) c.list_of.ensures
