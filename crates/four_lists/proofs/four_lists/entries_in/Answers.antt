use Rattle.four_lists.specs.inner.Counts.{entries_in}
use borrow.Author.Rules.{rules}
use Rattle.four_lists.proofs.four_lists.entries_in.Goals as goal

pub returns-in-Ok : goal.returns-in-Ok
unfolding entries_in
returns-in-Ok c = search rules

pub returns-in-Err : goal.returns-in-Err
unfolding entries_in
returns-in-Err c = search rules
