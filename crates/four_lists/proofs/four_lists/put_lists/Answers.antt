use Rattle.lists.proofs.ListLaws.{alias-rows, column-rows, reference-rows, question}
use Rattle.names.specs.Bindings.{binding_row}
use Rattle.references.specs.References.{reference_row}
use mathlib.Core.List.{[]}
use Rattle.four_lists.proofs.four_lists.put_lists.Goals as goal

pub returns : goal.returns
returns c =
    (c.list_offered.ensures.1, (question binding_row _ [] _ (alias-rows _ _ _) c.list_in.ensures).1, (question binding_row _ [] _ (column-rows _ _ _) c.list_in-2.ensures).1, (question reference_row _ [] _ (reference-rows _ _ _) c.list_in-3.ensures).1)
