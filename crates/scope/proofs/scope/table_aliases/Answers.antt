use Rattle.lists.proofs.ListLaws.{question, alias-rows}
use Rattle.names.specs.Bindings.{binding_row}
use Rattle.scope.proofs.scope.table_aliases.Goals as goal

pub returns : goal.returns
returns c = question binding_row _ _ _ (alias-rows _ _ _) c.list_of.ensures
