use Rattle.four_lists.proofs.CountLaws.{counted}
use Rattle.tables.specs.inner.Rows.{as_row}
use Rattle.four_lists.proofs.four_lists.count_in.Goals as goal

pub returns : goal.returns
returns c = counted as_row _ _ c.entries_in.ensures c.list_in.ensures.0
