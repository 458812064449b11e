-- The search for a clause that a list is read from, a record at a time.
--     Unmet, unmet-..        whether one is still to come
--     hands-..               whether a child's stretch is gone into
-- Assumes nothing.
use Prim.Native.Nat.{ℕ, ◌+◌, ◌≤◌, ◌<◌}
use mathlib.Core.Path.{◌≡◌, refl, sym, ◌∙◌}
use mathlib.Core.Bool.{Bool, true, false, not, ◌&&◌}
use mathlib.Core.List.{List}
use borrow.Author.Tests.{eq-eqb, ne_eqb}
use lib.Dec.{eqb}
use Rattle.records.specs.Kinds.{subquery_expression}
use Rattle.records.specs.Table.{count, kind_at, record_at, from, records}
use Rattle.forest.proofs.Laws.{from_end, from_cons}
use Rattle.clauses.specs.declared.clauses.ScopeList.{ScopeList}
use Rattle.clauses.specs.inner.Clauses.{in_kinds, some_kind, some_clause}

-- whether a record from i on has one of the kinds f to l is b
pub record Unmet (s : List ℕ) (f l i : ℕ) (b : Bool) : Type 0 where
  pub left : some_kind f l (from s 0 i) ≡ b

pub unmet-start : (s : List ℕ) (f l i : ℕ) → Unmet s f l i (some_kind f l (from s 0 i))
unmet-start s f l i = record { left = refl }

module _ {s : List ℕ} {f l i : ℕ} {b : Bool} (w : Unmet s f l i b) where
  pub unmet-none : count s ≤ i → false ≡ b
  unfolding some_kind
  unmet-none h = (rw (from_end s 0 i h) at w.left)

  module _ (h : i < count s) {k : ℕ} {x : Bool} (e : k ≡ kind_at s i) (t : x ≡ in_kinds f l k) where
    pub unmet-found : x ≡ true → true ≡ b
    unfolding some_kind record_at
    unmet-found y = (rw (from_cons s 0 i h, ← e, ← t, y) at w.left)

    pub unmet-on : {j : ℕ} → x ≡ false → j ≡ i + 1 → Unmet s f l j b
    unfolding some_kind record_at
    unmet-on y q = record { left = rw q (rw (from_cons s 0 i h, ← e, ← t, y) at w.left) }

module _ (asked : ScopeList) (s : List ℕ) {k : ℕ} (e : k ≡ kind_at s 0) where
  pub hands-sub : k ≡ subquery_expression → false ≡ (not (eqb (kind_at s 0) subquery_expression) && some_clause asked (records 0 s))
  hands-sub q = rw (eq-eqb (kind_at s 0) subquery_expression (sym e ∙ q))

  pub hands-clause : {x : Bool} → (k ≡ subquery_expression → ⊥) → x ≡ some_clause asked (records 0 s) → x ≡ (not (eqb (kind_at s 0) subquery_expression) && some_clause asked (records 0 s))
  hands-clause n c = rw (ne_eqb (kind_at s 0) subquery_expression (λ q. n (e ∙ q))) c
