use Rattle.binders.specs.inner.Binders.{is_list}
use Rattle.binders.proofs.binders.is_list.Goals as goal

pub returns-in-Item : goal.returns-in-Item
unfolding is_list
returns-in-Item c = rw c.in-Item.is

pub returns-in-Alias : goal.returns-in-Alias
unfolding is_list
returns-in-Alias c = rw c.in-Alias.is
