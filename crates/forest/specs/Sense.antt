-- What the Forest of an admitted table has to do with the table: words for the theorems in proofs/Sense.antt.
-- Definitions only.
use Rattle.std.specs.Prelude.{ℕ, ◌+◌, ◌*◌, ◌≤◌, ◌<◌, ◌≡◌, List, [], ◌∷◌, ◌++◌, ◌⊎◌, length}
use Rattle.records.specs.declared.record.Rec.{Rec}
use Rattle.records.specs.Table.{record_bytes, count, kind_at, depth_at, start_at, end_at, parent_at, record_at, records}
use Rattle.forest.specs.Forest.{Forest, nil, token, node, kids}
use Rattle.conditions.specs.Conditions.{most_records, most_depth, most_source, parent_of}
use Rattle.table.specs.Exactly.{Node, Token}

-- ---- the table

-- what is true of the records of an admitted table, for a source of n bytes
pub record Tidy (t : List ℕ) (n : ℕ) : Type 0 where
  pub whole : length t ≡ record_bytes * count t
  pub some : 0 < count t
  pub few : count t ≤ most_records
  pub short : n ≤ most_source
  pub top : Node (kind_at t 0) × (depth_at t 0 ≡ 0)
  pub kinds : (i : ℕ) → i < count t → Node (kind_at t i) ⊎ Token (kind_at t i)
  pub under : (i : ℕ) → i + 1 < count t → 1 ≤ depth_at t (i + 1)
  pub step : (i : ℕ) → i + 1 < count t → depth_at t (i + 1) ≤ depth_at t i + 1
  pub leaf : (i : ℕ) → i + 1 < count t → Token (kind_at t i) → depth_at t (i + 1) ≤ depth_at t i
  pub depths : (i : ℕ) → i < count t → depth_at t i ≤ most_depth
  pub parents : (i : ℕ) → i < count t → parent_at t i ≡ parent_of t i
  pub spans : (i : ℕ) → i < count t → Token (kind_at t i) → (start_at t i ≤ end_at t i) × (end_at t i ≤ n)
  pub order : (i j : ℕ) → i < j → j < count t → Token (kind_at t i) → Token (kind_at t j) → end_at t i ≤ start_at t j

-- ---- the tree

-- the tree that a table stands for: record 0, with what is below it
abbrev pub tree_of : List ℕ → Forest
tree_of t = node (record_at t 0 0) (kids (records 0 t)) nil

-- a record, with its parent's number
pub record Linked : Type 0 where
  pub self : Rec
  pub parent : ℕ

-- the records of siblings and of what is below them, in document order, each with its parent's number, where p is the siblings' own
unfoldable pub in_order : ℕ → Forest → List Linked
in_order p nil = []
in_order p (token r rest) = record { self = r; parent = p } ∷ in_order p rest
in_order p (node r below rest) = record { self = r; parent = p } ∷ (in_order r.index below ++ in_order p rest)

-- some records of the table, each with the nearest earlier record whose depth is one less, record 0 with 0
unfoldable pub by_depth : List ℕ → List Rec → List Linked
by_depth t [] = []
by_depth t (r ∷ rs) = record { self = r; parent = parent_of t r.index } ∷ by_depth t rs

-- the same records, each with the parent that it carries
unfoldable pub as_carried : List ℕ → List Rec → List Linked
as_carried t [] = []
as_carried t (r ∷ rs) = record { self = r; parent = parent_at t r.index } ∷ as_carried t rs
