use Rattle.lists.proofs.ListLaws.{question, reference-rows}
use Rattle.references.specs.References.{reference_row}
use Rattle.offers.proofs.offers.table_refs_at.Goals as goal

pub returns : goal.returns
returns c = question reference_row _ _ _ (reference-rows _ _ _) c.offer.ensures
