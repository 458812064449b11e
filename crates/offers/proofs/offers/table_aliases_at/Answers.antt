use Rattle.lists.proofs.ListLaws.{question, alias-rows}
use Rattle.names.specs.Bindings.{binding_row}
use Rattle.offers.proofs.offers.table_aliases_at.Goals as goal

pub returns : goal.returns
returns c = question binding_row _ _ _ (alias-rows _ _ _) c.offer.ensures
