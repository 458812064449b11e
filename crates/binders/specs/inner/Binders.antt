-- How one walk serves WITH items and column aliases, by what binds the names.
-- Definitions only. A reader of the lists needs none of them.
use Rattle.std.specs.Prelude.{ℕ, Bool, ◌||◌, List, eqb, Option}
use Rattle.records.specs.declared.record.Rec.{Rec}
use Rattle.records.specs.Kinds.{with_expression_item, column_list, expression_list, column_alias}
use Rattle.forest.specs.Forest.{Forest}
use Rattle.names.specs.declared.names.NameBinding.{NameBinding}
use Rattle.binders.specs.declared.binders.Binder.{Binder}
use Rattle.binders.specs.declared.binders.Binder.TheVariants.{Item, Alias}
use Rattle.names.specs.Names.{with_item, alias_in}
use Rattle.names.specs.Bindings.{bound_in}

-- ---- WITH items or column aliases, by what binds the names

-- the kind of what binds them
unfoldable pub binder_kind : Binder → ℕ
binder_kind Item = with_expression_item
binder_kind Alias = column_alias

-- the lists that are gone through
unfoldable pub is_list : Binder → ℕ → Bool
is_list Item k = eqb k column_list
is_list Alias k = eqb k column_list || eqb k expression_list

-- what it binds
unfoldable pub binds : Binder → List ℕ → Rec → Forest → Option NameBinding
binds Item src r below = with_item src r below
binds Alias src r below = alias_in src r below

-- what siblings bind
abbrev pub names : Binder → List ℕ → Forest → List NameBinding
names binder src = bound_in (binder_kind binder) (is_list binder) (binds binder src)
