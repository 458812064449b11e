-- The tree that a list of records stands for, in first-child, next-sibling form.
-- Definitions only.
use Rattle.std.specs.Prelude.{ℕ, suc, ◌+◌, ◌≤◌, ◌<◌, ◌≡◌, List, [], ◌∷◌, cond, ltb}
use Rattle.records.specs.declared.record.Rec.{Rec}
use Rattle.records.specs.Kinds.{is_node}
use Rattle.records.specs.Table.{count, depth_at, from}

-- siblings: none; a token and its next siblings; a node, its children and its next siblings
pub data Forest : Type 0 where
  nil : Forest
  token : Rec → Forest → Forest
  node : Rec → Forest → Forest → Forest

-- the siblings of depth k that stand at the head of the list, with what is below them: up to the first shallower record.
-- A record that is deeper than k is no sibling, and is passed over.
unfoldable pub level : ℕ → List Rec → Forest
level k [] = nil
level k (r ∷ rs) =
    let rest : Forest = level k rs in
    let leaf : Forest = token r rest in
    let tree : Forest = node r (level (k + 1) rs) rest in
    let sibling : Forest = cond (is_node r.kind) tree leaf in
    let more : Forest = cond (ltb k r.depth) rest sibling in
    cond (ltb r.depth k) nil more

-- the children of the first record of a stretch
unfoldable pub kids : List Rec → Forest
kids [] = nil
kids (r ∷ rs) = level (r.depth + 1) rs

-- how many records at the head of the list are deeper than k: of a node of depth k, how many follow it in its stretch
unfoldable pub extent : ℕ → List Rec → ℕ
extent k [] = 0
extent k (r ∷ rs) = cond (ltb k r.depth) (suc (extent k rs)) 0

-- the siblings of depth k from record i of t on: what a loop over siblings has before it
unfoldable pub siblings : List ℕ → ℕ → ℕ → ℕ → Forest
siblings t base k i = level k (from t base i)

-- the number of the first record after i that is not deeper than i, or the count
unfoldable pub stretch_end : List ℕ → ℕ → ℕ
stretch_end t i = i + 1 + extent (depth_at t i) (from t 0 (i + 1))

-- the children of t's first record, from record i on
unfoldable pub children : List ℕ → ℕ → ℕ → Forest
children t base i = siblings t base (depth_at t 0 + 1) i

-- what a step to the next child finds: from record j on, the first child is record r, or there is none and r is the count
pub record Child (t : List ℕ) (j r : ℕ) : Type 0 where
  pub on : j ≤ r
  pub within : r ≤ count t
  pub depth : r < count t → depth_at t r ≡ depth_at t 0 + 1
  pub same : (base : ℕ) → children t base j ≡ children t base r

-- what a step along a level finds: from record j on, record r is the first that is not deeper than k, or there is none and r is the count
pub record Reached (t : List ℕ) (k j r : ℕ) : Type 0 where
  pub on : j ≤ r
  pub within : r ≤ count t
  pub depth : r < count t → depth_at t r ≤ k
  pub passed : (i : ℕ) → j ≤ i → i < r → k < depth_at t i

-- the children of record i
abbrev pub inside : List ℕ → ℕ → Forest
inside t i = kids (from t 0 i)
