use Rattle.four_lists.proofs.CountLaws.{counts-are}
use Rattle.four_lists.proofs.four_lists.counts_in.Goals as goal

pub returns : goal.returns
returns c =
    counts-are _ _ _ c.count_offered.ensures c.count_in.ensures c.count_in-2.ensures c.count_in-3.ensures
