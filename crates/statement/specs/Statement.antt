-- Document 01, Cursor, "Enclosing statement", and what it is without following the search.
-- Definitions only; the theorem is in proofs/Statements.antt.
use Rattle.lent.specs.declared.refusal.Refusal.{Refusal}
use Rattle.lent.specs.Verdicts.{Verdict}
use Rattle.std.specs.Prelude.{ℕ, ◌≡◌, Bool, true, cond, ◌&&◌, leb, Ok, Err, Result, Option, Some, None}
use mathlib.Core.List.{List, [], ◌∷◌, ◌++◌, Memᴰ}
use Rattle.records.specs.declared.record.Rec.{Rec}
use Rattle.records.specs.Kinds.{select_statement, describe_statement}
use Rattle.forest.specs.Forest.{Forest, nil, token, node}
use Rattle.forest.specs.Sense.{tree_of}
use Rattle.forest.specs.Places.{Place, places}
use Rattle.records.specs.Ranges.{holds}

-- kinds 4 to 13
abbrev pub is_statement : ℕ → Bool
is_statement k = leb select_statement k && leb k describe_statement

-- itself if kind 4 to 13
abbrev pub itself : ℕ → ℕ → Option ℕ
itself k i = cond (is_statement k) (Some i) None

-- this find, or else that one
unfoldable pub or_else : Option ℕ → Option ℕ → Option ℕ
or_else None other = other
or_else (Some n) other = Some n

-- the first find among siblings: a node that is empty or doesn't hold the offset gives none; else the first find among its child
-- nodes, else itself if kind 4 to 13
unfoldable pub first_find : ℕ → Forest → Option ℕ
first_find o nil = None
first_find o (token r rest) = first_find o rest
first_find o (node r below rest) =
    let found : (Option ℕ) = or_else (first_find o below) (itself r.kind r.index) in
    let on : (Option ℕ) = first_find o rest in
    or_else (cond (holds o r) found None) on

-- the enclosing statement
unfoldable pub enclosing_at : List ℕ → ℕ → Option ℕ
enclosing_at t o = first_find o (tree_of t)

-- ---- without following the search

-- all of some records hold the offset
unfoldable pub Hold : ℕ → List Rec → Type 0
Hold o [] = Unit
Hold o (r ∷ rs) = (holds o r ≡ true) × Hold o rs

-- a candidate: a statement that holds the offset, all of whose ancestors hold it too; so neither it nor any of them is empty
pub record Candidate (o : ℕ) (p : Place) : Type 0 where
  pub statement : is_statement p.self.kind ≡ true
  pub holding : holds o p.self ≡ true
  pub above : Hold o p.above

-- the nodes inside a node
abbrev pub inside_of : Place → List Place
inside_of p = places (p.self ∷ p.above) p.below

-- a candidate that has none inside it
pub record Innermost (o : ℕ) (p : Place) : Type 0 where
  pub candidate : Candidate o p
  pub none_inside : (q : Place) → Memᴰ q (inside_of p) → Candidate o q → ⊥

-- of some nodes in document order, the first that is an innermost candidate has the number n
pub record FirstInnermost (o : ℕ) (ps : List Place) (n : ℕ) : Type 0 where
  pub before : List Place
  pub it : Place
  pub after : List Place
  pub whole : ps ≡ before ++ it ∷ after
  pub number : it.self.index ≡ n
  pub innermost : Innermost o it
  pub none_before : (q : Place) → Memᴰ q before → Innermost o q → ⊥

-- no candidate among some nodes
abbrev pub NoCandidate : ℕ → List Place → Type 0
NoCandidate o ps = (q : Place) → Memᴰ q ps → Candidate o q → ⊥
