use Rattle.binders.specs.inner.Binders.{binder_kind}
use Rattle.binders.proofs.binders.is_binder.Goals as goal

pub returns-in-Item : goal.returns-in-Item
unfolding binder_kind
returns-in-Item c = rw c.in-Item.is

pub returns-in-Alias : goal.returns-in-Alias
unfolding binder_kind
returns-in-Alias c = rw c.in-Alias.is
