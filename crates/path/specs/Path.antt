-- Document 01, Cursor, "Path": the nodes from record 0 down to an offset, and what stands below one of them.
-- Definitions only.
use Rattle.std.specs.Prelude.{ℕ, Bool, false, cond, ◌||◌, true, ◌&&◌, List, [], ◌∷◌, eqb, leb, Option, None, Some}
use Rattle.records.specs.declared.record.Rec.{Rec}
use Rattle.records.specs.Table.{records}
use Rattle.forest.specs.Descent.{path_of}
use Rattle.records.specs.Ranges.{holds}
use Rattle.records.specs.Kinds.{subquery_expression, select_statement, update_statement}

-- the path: record 0, then at each node the first child that holds the offset, both ends inclusive; an empty node holds none
abbrev pub path_at : List ℕ → ℕ → List Rec
path_at t o = path_of (holds o) (records 0 t)

-- the kind is one of these
abbrev pub one_of : List ℕ → ℕ → Bool
one_of [] k = false
one_of (x ∷ xs) k = eqb k x || one_of xs k

-- the deepest of a path's nodes whose kind passes a test, or the one that is given
unfoldable pub deepest_or : Option Rec → (ℕ → Bool) → List Rec → Option Rec
deepest_or best test [] = best
deepest_or best test (r ∷ rs) = deepest_or (cond (test r.kind) (Some r) best) test rs

-- the deepest of a path's nodes whose kind passes a test, or none
abbrev pub deepest : (ℕ → Bool) → List Rec → Option Rec
deepest test p = deepest_or None test p

-- a node of this kind is on the path
unfoldable pub on_path : ℕ → List Rec → Bool
on_path k [] = false
on_path k (r ∷ rs) = eqb r.kind k || on_path k rs

abbrev pub is_subquery : ℕ → Bool
is_subquery k = eqb k subquery_expression

-- what stands next below a node of a path: nothing, or a node of this kind
pub data Next : Type 0 where
  Deepest : Next
  Above : ℕ → Next

-- what is next below a node, where these are the deeper nodes of the path
unfoldable pub next_of : List Rec → Next
next_of [] = Deepest
next_of (r ∷ rs) = Above r.kind

-- the node is deepest
unfoldable pub is_deepest : Next → Bool
is_deepest Deepest = true
is_deepest (Above k) = false

-- the node is deepest, or a node of kind x is next below
unfoldable pub deepest_over : ℕ → Next → Bool
deepest_over x Deepest = true
deepest_over x (Above k) = eqb k x

-- a statement of kinds 4 to 9
abbrev pub trails : ℕ → Bool
trails k = leb select_statement k && leb k update_statement
