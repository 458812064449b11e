-- Demand 3: what the reference lists of a tree's roots hold, said of its nodes and of what stands above each.
-- Definitions only; the theorem is in proofs/Exact.antt; over replies and bytes it is demands/specs/Demand3.antt.
use Rattle.std.specs.Prelude.{ℕ, ◌+◌, ◌≡◌, Bool, true, false, cond, ◌&&◌, ◌||◌, not, eqb, length}
use mathlib.Core.List.{List, [], ◌∷◌, Memᴰ}
use Rattle.records.specs.declared.record.Rec.{Rec}
use Rattle.records.specs.Kinds.{with_clause, from_clause, join_clause, subquery_expression, table_identifier, table_expression}
use Rattle.forest.specs.Forest.{Forest}
use Rattle.forest.specs.Places.{Place, sum}
use Rattle.references.specs.declared.pending.TableRef.{TableRef}
use Rattle.names.specs.Names.{is_part, direct}
use Rattle.collection.specs.Collection.{collection, own_tables}
use Rattle.tables.specs.Tables.{references}

-- ---- roots and names

unfoldable pub is_top : List Rec → Bool
is_top [] = true
is_top (a ∷ more) = false

-- record 0, which nothing is above, and every subquery node
unfoldable pub is_root : Place → Bool
is_root p = is_top p.above || eqb p.self.kind subquery_expression

-- one or two parts
unfoldable pub one_or_two : List Rec → Bool
one_or_two [] = false
one_or_two (t ∷ []) = true
one_or_two (d ∷ t ∷ []) = true
one_or_two (d ∷ t ∷ u ∷ more) = false

abbrev pub has_one_or_two : Forest → Bool
has_one_or_two below = one_or_two (direct is_part below)

-- a table name node of one or two parts
unfoldable pub is_table_name : Place → Bool
is_table_name p = eqb p.self.kind table_identifier && has_one_or_two p.below

-- is record n the nearest root: the first of kind 30, or the last
unfoldable pub root_is : ℕ → List Rec → Bool
root_is n [] = false
root_is n (a ∷ []) = eqb a.index n
root_is n (a ∷ (b ∷ more)) = cond (eqb a.kind subquery_expression) (eqb a.index n) (root_is n (b ∷ more))

-- ---- how often a node is reached

-- the nodes above, up to and including the nearest root
unfoldable pub up_to_root : List Rec → List Rec
up_to_root [] = []
up_to_root (a ∷ more) = let on : List Rec = up_to_root more in cond (eqb a.kind subquery_expression) (a ∷ []) (a ∷ on)

-- do all have a kind that passes the test
unfoldable pub every : (ℕ → Bool) → List Rec → Bool
every test [] = true
every test (a ∷ more) = test a.kind && every test more

-- a FROM or JOIN node
abbrev pub from_or_join : ℕ → Bool
from_or_join k = eqb k from_clause || eqb k join_clause

-- what may stand between: table expressions and joins
abbrev pub passes : ℕ → Bool
passes k = eqb k table_expression || eqb k join_clause

-- no WITH clause
abbrev pub no_with : ℕ → Bool
no_with k = not (eqb k with_clause)

-- does the node a, with the nodes outer above it, reach what stands below the nodes between: it is a FROM or JOIN, only table expressions
-- and joins stand between, and no WITH clause stands at or above it, up to and including the root
unfoldable pub reach : List Rec → Rec → List Rec → Bool
reach between a outer = from_or_join a.kind && every passes between && every no_with (up_to_root (a ∷ outer))

-- how many of the nodes above do, nearest first, where the nodes between have been passed
unfoldable pub reaching : List Rec → List Rec → ℕ
reaching between [] = 0
reaching between (a ∷ outer) = cond (reach between a outer) 1 0 + reaching (a ∷ between) outer

-- how many FROM or JOIN nodes reach a node
abbrev pub reaches : Place → ℕ
reaches p = reaching [] p.above

-- ---- the statement, of the references that a root's question lists

-- the references of a root
abbrev pub refs : List ℕ → Place → List TableRef
refs src p = collection (own_tables references src) p.self p.below

-- how often the name node x stands in a list of references
abbrev pub times : ℕ → List TableRef → ℕ
times x = sum (λ (e : TableRef). cond (eqb e.«record» x) 1 0)

pub record Exact (src : List ℕ) (ps : List Place) : Type 0 where
  -- in a root's list a name stands as often as it is reached if the root is its nearest, else not at all
  pub names : (root p : Place) → Memᴰ root ps → is_root root ≡ true → Memᴰ p ps → is_table_name p ≡ true
      → times p.self.index (refs src root) ≡ cond (root_is root.self.index p.above) (reaches p) 0
  -- nothing else stands there
  pub others : (root : Place) (x : ℕ) → Memᴰ root ps → is_root root ≡ true
      → ((p : Place) → Memᴰ p ps → is_table_name p ≡ true → p.self.index ≡ x → ⊥) → times x (refs src root) ≡ 0
  -- all roots' lists together are as long as the names are reached
  pub total : sum (λ (root : Place). cond (is_root root) (length (refs src root)) 0) ps
      ≡ sum (λ (p : Place). cond (is_table_name p) (reaches p) 0) ps
