use Rattle.lists.specs.inner.Rows.{width}
use mathlib.Core.Path.{refl}
use Rattle.lists.proofs.lists.width_of.Goals as goal

pub returns-in-WithNames : goal.returns-in-WithNames
unfolding width
returns-in-WithNames c = rw c.in-WithNames.is refl

pub returns-in-TableAliases : goal.returns-in-TableAliases
unfolding width
returns-in-TableAliases c = rw c.in-TableAliases.is refl

pub returns-in-ColumnAliases : goal.returns-in-ColumnAliases
unfolding width
returns-in-ColumnAliases c = rw c.in-ColumnAliases.is refl

pub returns-in-TableRefs : goal.returns-in-TableRefs
unfolding width
returns-in-TableRefs c = rw c.in-TableRefs.is refl
