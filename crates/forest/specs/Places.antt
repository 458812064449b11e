-- The nodes of a table's tree, each with what is below it and what is above it.
-- Definitions only.
use Rattle.std.specs.Prelude.{ℕ, ◌+◌, ◌≤◌, ◌<◌, ◌≡◌, cond, List, [], ◌∷◌, ◌++◌, eqb}
use Rattle.records.specs.declared.record.Rec.{Rec}
use Rattle.records.specs.Kinds.{is_node}
use Rattle.records.specs.Table.{count, record_at, records, part}
use Rattle.forest.specs.Forest.{Forest, nil, token, node, kids, stretch_end}
use Rattle.forest.specs.Sense.{tree_of}

-- a node: its record, its children, and the records of the nodes above it, nearest first
pub record Place : Type 0 where
  pub self : Rec
  pub below : Forest
  pub above : List Rec

-- the nodes among siblings and below them, in document order
unfoldable pub places : List Rec → Forest → List Place
places above nil = []
places above (token r rest) = places above rest
places above (node r below rest) =
    record { self = r; below = below; above = above } ∷ (places (r ∷ above) below ++ places above rest)

-- the nodes of a table's tree
abbrev pub nodes_of : List ℕ → List Place
nodes_of t = places [] (tree_of t)

-- their records
unfoldable pub selves : List Place → List Rec
selves [] = []
selves (p ∷ ps) = p.self ∷ selves ps

-- the nodes among some records
unfoldable pub node_records : List Rec → List Rec
node_records [] = []
node_records (r ∷ rs) = let on : List Rec = node_records rs in cond (is_node r.kind) (r ∷ on) on

-- a node of the tree is a record of the table, and below it is what stands in its stretch
pub record Stands (t : List ℕ) (p : Place) : Type 0 where
  pub at : ℕ
  pub within : at < count t
  pub self : p.self ≡ record_at t 0 at
  pub below : p.below ≡ kids (records at (part t at (stretch_end t at)))

-- the sum of f over a list
unfoldable pub sum : {A : Type 0} → (A → ℕ) → List A → ℕ
sum f [] = 0
sum f (x ∷ xs) = f x + sum f xs

-- no two nodes have one number
abbrev pub Numbered : List Place → Type 0
Numbered ps = (x : ℕ) → sum (λ (p : Place). cond (eqb p.self.index x) 1 0) ps ≤ 1
