-- What is gathered on the way down: the deepest node that passes a test, and is a JoinConstraint on the path.
-- Assumes nothing.
use Prim.Native.Nat.{ℕ}
use mathlib.Core.Path.{◌≡◌, refl, sym, ◌∙◌}
use mathlib.Core.Bool.{Bool, true, false, cond, ◌||◌}
use mathlib.Core.List.{List, [], ◌∷◌}
use lib.Dec.{eqb}
use Rattle.std.specs.Prelude.{Option, None, Some}
use Rattle.records.specs.declared.record.Rec.{Rec}
use Rattle.records.specs.Kinds.{join_constraint}
use Rattle.forest.specs.Descent.{along}
use Rattle.path.specs.declared.gathered.Gathered.{Gathered}
use Rattle.path.specs.Path.{deepest_or, deepest, on_path, trails, is_subquery}
use Rattle.path.specs.inner.Gathered.{settled_by, stepped, nothing, gathered}

-- ---- the deepest statement, and the JoinConstraint

or_assoc : (a b c : Bool) → ((a || b) || c) ≡ (a || (b || c))
or_assoc true b c = refl
or_assoc false b c = refl

pub or-none : (a : Bool) → (a || false) ≡ a
or-none true = refl
or-none false = refl

along-constrained : (l : List Rec) (g : Gathered) → (along (λ g r. stepped g r.kind r.index) g l).constrained ≡ (g.constrained || on_path join_constraint l)
unfolding along on_path stepped settled_by
along-constrained [] g = sym (or-none g.constrained)
along-constrained (r ∷ l) g = along-constrained l _ ∙ (or_assoc g.constrained (eqb r.kind join_constraint) (on_path join_constraint l))

-- a node's number, if there is one
unfoldable pub numbered : Option Rec → Option ℕ
numbered None = None
numbered (Some r) = Some r.index

-- the deepest node that passes a test, as a number of what is gathered
module _ (test : ℕ → Bool) (field : Gathered → Option ℕ)
    (steps : (g : Gathered) (r : Rec) → field (stepped g r.kind r.index) ≡ cond (test r.kind) (Some r.index) (field g)) where
  pub along-deepest : (l : List Rec) (g : Gathered) (best : Option Rec) → field g ≡ numbered best
      → field (along (λ g r. stepped g r.kind r.index) g l) ≡ numbered (deepest_or best test l)
  unfolding along deepest_or numbered
  along-deepest [] g best e = e
  along-deepest (r ∷ l) g best e = along-deepest l (stepped g r.kind r.index) (cond (test r.kind) (Some r) best) (steps g r ∙ go (test r.kind))
    where
      go : (b : Bool) → cond b (Some r.index) (field g) ≡ numbered (cond b (Some r) best)
      go true = refl
      go false = e

pub gathered-statement : (p : List Rec) → (gathered p).statement ≡ numbered (deepest trails p)
unfolding gathered settled_by stepped numbered
gathered-statement p = along-deepest trails (λ g. g.statement) (λ g r. refl) p nothing None refl

-- ---- the context

pub gathered-constrained : (p : List Rec) → (gathered p).constrained ≡ on_path join_constraint p
unfolding gathered settled_by
gathered-constrained p = along-constrained p nothing

pub gathered-query : (p : List Rec) → (gathered p).query ≡ numbered (deepest is_subquery p)
unfolding gathered settled_by stepped numbered
gathered-query p = along-deepest is_subquery (λ g. g.query) (λ g r. refl) p nothing None refl
