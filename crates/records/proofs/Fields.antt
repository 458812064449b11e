-- The fields of a record that is read from a table.
-- Assumes nothing.
use Prim.Native.Nat.{ℕ, ◌+◌}
use mathlib.Core.Path.{◌≡◌, refl}
use mathlib.Core.Bool.{true, false}
use mathlib.Core.List.{List}
use borrow.Author.Tests.{eq-eqb, ne_eqb}
use lib.Dec.{eqb}
use Rattle.records.specs.Table.{kind_at, record_at}

-- the kind of a record
pub kind-of : (s : List ℕ) (base i : ℕ) → (record_at s base i).kind ≡ kind_at s i
unfolding record_at
kind-of s base i = refl

module _ (s : List ℕ) (base i : ℕ) where
  pub kind-yes : {k : ℕ} → kind_at s i ≡ k → eqb (record_at s base i).kind k ≡ true
  kind-yes {k} e = rw (kind-of s base i) (eq-eqb (kind_at s i) k e)

  pub kind-no : (k : ℕ) → (kind_at s i ≡ k → ⊥) → eqb (record_at s base i).kind k ≡ false
  kind-no k e = rw (kind-of s base i) (ne_eqb (kind_at s i) k e)

  pub index_of : (record_at s base i).index ≡ base + i
  unfolding record_at
  index_of = refl
