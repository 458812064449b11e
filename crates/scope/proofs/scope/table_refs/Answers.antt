use Rattle.lists.proofs.ListLaws.{question, reference-rows}
use Rattle.references.specs.References.{reference_row}
use Rattle.scope.proofs.scope.table_refs.Goals as goal

pub returns : goal.returns
returns c = question reference_row _ _ _ (reference-rows _ _ _) c.list_of.ensures
