-- What a turn of the walk over WITH items or column aliases writes.
-- Assumes nothing.
use Prim.Native.Nat.{ℕ, ◌+◌, ◌<◌}
use mathlib.Core.Path.{◌≡◌, refl, sym, ◌∙◌}
use mathlib.Core.Bool.{Bool, true, false}
use mathlib.Core.List.{List, [], ◌++◌}
use lib.Dec.{eqb}
use Rattle.names.specs.declared.names.NameBinding.{NameBinding}
use Rattle.std.specs.Prelude.{Option}
use Rattle.records.specs.declared.record.Rec.{Rec}
use Rattle.records.specs.Table.{count, kind_at, record_at, records, part}
use Rattle.forest.specs.Forest.{Forest, nil, token, node, kids, stretch_end}
use Rattle.lent.proofs.Writes.{written_none}
use Rattle.forest.proofs.Laws.{head-part}
use Rattle.forest.proofs.Writing.{writing, writing-turn}
use Rattle.binders.specs.declared.binders.Binder.{Binder}
use Rattle.binders.specs.declared.binders.Binder.TheVariants.{Item, Alias}
use Rattle.names.specs.Bindings.{entry, bound_in, with_items, select_aliases, binding_row}
use Rattle.binders.specs.inner.Binders.{binder_kind, is_list, binds, names}
use Rattle.records.proofs.Fields.{kind-of}

-- ---- bound names

module _ (binder : Binder) (src s : List ℕ) (base i : ℕ) (f : Forest) where
  module _ {k : ℕ} (e : k ≡ kind_at s i) where
    kind-eqb : {x : Bool} → x ≡ eqb k (binder_kind binder) → eqb (record_at s base i).kind (binder_kind binder) ≡ x
    kind-eqb q = rw (kind-of s base i, ← e) (sym q)

    kind-list : {x : Bool} → x ≡ is_list binder k → is_list binder (record_at s base i).kind ≡ x
    kind-list q = rw (kind-of s base i, ← e) (sym q)

    pub names-bind : {x : Bool} {b : Option NameBinding} {p : List ℕ} → i < count s → p ≡ part s i (stretch_end s i) → x ≡ eqb k (binder_kind binder) → x ≡ true
        → b ≡ binds binder src (record_at p (base + i) 0) (kids (records (base + i) p))
        → names binder src (node (record_at s base i) (kids (records (base + i) p)) f) ≡ entry b ++ names binder src f
    unfolding bound_in
    names-bind h q x y b = rw (kind-eqb x ∙ y, b, head-part s base i h q)

    pub names-list : {x y : Bool} (below : Forest) → x ≡ eqb k (binder_kind binder) → x ≡ false → y ≡ is_list binder k → y ≡ true
        → names binder src (node (record_at s base i) below f) ≡ names binder src below ++ names binder src f
    unfolding bound_in
    names-list below x n y t = rw (kind-eqb x ∙ n, kind-list y ∙ t)

    pub names-over : {x y : Bool} (below : Forest) → x ≡ eqb k (binder_kind binder) → x ≡ false → y ≡ is_list binder k → y ≡ false
        → names binder src (node (record_at s base i) below f) ≡ names binder src f
    unfolding bound_in
    names-over below x n y t = rw (kind-eqb x ∙ n, kind-list y ∙ t)

pub names-none : (binder : Binder) (src : List ℕ) → names binder src nil ≡ []
unfolding bound_in
names-none binder src = refl

-- a token adds nothing to what is written
pub names-pass : (binder : Binder) (src out : List ℕ) (at : ℕ) (r : Rec) (f : Forest)
    → writing binding_row (names binder src) out at (token r f) ≡ writing binding_row (names binder src) out at f
unfolding bound_in
names-pass binder src out at r f = writing-turn binding_row (names binder src) (names binder src) (token r f) f refl (written_none binding_row out at)

-- ---- the walks of WITH items and of column aliases

pub names-item : (src : List ℕ) (f : Forest) → names Item src f ≡ with_items src f
unfolding binder_kind is_list binds
names-item src f = refl

pub names-alias : (src : List ℕ) (f : Forest) → names Alias src f ≡ select_aliases src f
unfolding binder_kind is_list binds
names-alias src f = refl
