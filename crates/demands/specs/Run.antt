-- Run the statement under the cursor: what the key picks, said of the table's tree and without following the search.
-- t is the table's bytes, o the offset, x what the question says: a record's number, or `nothing`.
-- Definitions only; the theorems are `picks`, `one-pick` and `pressed` in proofs/Run.antt. Its refusals are demand 1's.
use Rattle.std.specs.Prelude.{ℕ, ◌≤◌, ◌≡◌, ◌↔◌}
use mathlib.Core.List.{List, Memᴰ}
use Rattle.records.specs.declared.record.Rec.{Rec}
use Rattle.records.specs.Kinds.{select_statement, describe_statement}
use Rattle.forest.specs.Places.{Place, nodes_of}
use Rattle.statement.specs.Statement.{inside_of}
use Rattle.replies.specs.Reply.{no_record as nothing, packed, answered}
use Rattle.demands.specs.declared.Question.TheVariants.{EnclosingStatement}
use Rattle.demands.specs.Questions.{Asked, number, matter}

-- a record that is not empty and holds the offset, both ends counted
pub record Around (o : ℕ) (r : Rec) : Type 0 where
  pub non-empty : r.start ≤ r.end
  pub from : r.start ≤ o
  pub to : o ≤ r.end

-- a candidate: a non-empty node of kinds 4 to 13 that holds the offset, all of whose ancestors are non-empty and hold it too
pub record Runnable (t : List ℕ) (o : ℕ) (p : Place) : Type 0 where
  pub node : Memᴰ p (nodes_of t)
  pub kind-from : select_statement ≤ p.self.kind
  pub kind-to : p.self.kind ≤ describe_statement
  pub holding : Around o p.self
  pub above : (r : Rec) → Memᴰ r p.above → Around o r

-- a candidate whose record is x
pub record RunnableAt (t : List ℕ) (o x : ℕ) : Type 0 where
  pub it : Place
  pub number : it.self.index ≡ x
  pub runnable : Runnable t o it

-- no candidate is inside a node
abbrev pub NoneInside : List ℕ → ℕ → Place → Type 0
NoneInside t o p = (q : Place) → Memᴰ q (inside_of p) → Runnable t o q → ⊥

-- what the key picks
pub record Picks (t : List ℕ) (o x : ℕ) : Type 0 where
  -- none is given exactly if no candidate exists
  pub none-exactly : (x ≡ nothing) ↔ ((p : Place) → Runnable t o p → ⊥)
  -- otherwise the node given is a candidate
  pub candidate : (x ≡ nothing → ⊥) → RunnableAt t o x
  -- no candidate is inside it
  pub none_inside : (p : Place) → Runnable t o p → p.self.index ≡ x → NoneInside t o p
  -- and of all such it comes first in the document
  pub first : (p : Place) → Runnable t o p → NoneInside t o p → x ≤ p.self.index

-- the promise to the person who presses the key: what the question says is a number, the reply is an answer with it, and the key picks it
pub record Pressed (a : Asked) (reply : ℕ) : Type 0 where
  pub picked : ℕ
  pub said : (matter EnclosingStatement a).said ≡ number picked
  pub replied : reply ≡ packed answered picked
  pub picks : Picks a.table a.offset picked
