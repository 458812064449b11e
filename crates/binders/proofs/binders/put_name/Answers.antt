use Rattle.binders.specs.inner.Binders.{binds}
use Rattle.binders.proofs.binders.put_name.Goals as goal

pub returns-in-Item : goal.returns-in-Item
unfolding binds
returns-in-Item c = rw c.in-Item.is c.put_cte.ensures

pub returns-in-Alias : goal.returns-in-Alias
unfolding binds
returns-in-Alias c = rw c.in-Alias.is c.put_alias_name.ensures
