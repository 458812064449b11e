use Rattle.four_lists.proofs.CountLaws.{counted}
use Rattle.names.specs.Bindings.{binding_row}
use Rattle.four_lists.proofs.four_lists.count_offered.Goals as goal

pub returns : goal.returns
returns c = counted binding_row _ _ c.entries_in.ensures c.list_offered.ensures.0
