-- The classes record by record, where a token's parent is the record whose number it carries. A reader of the promise needs none of it.
-- Definitions only.
use Rattle.std.specs.Prelude.{ℕ, zero, suc, ◌<◌, ◌≡◌, cond, List, [], ◌++◌}
use Rattle.records.specs.Kinds.{is_node}
use Rattle.records.specs.Table.{count, kind_at, start_at, end_at, parent_at}
use Rattle.classes.specs.TokenClass.{class_of}
use Rattle.class_list.specs.declared.class_list.ClassedToken.{ClassedToken}
use Rattle.class_list.specs.Classes.{entry_of, classes_of}

-- what record i gives: a node nothing, a token its entry
unfoldable pub given_at : List ℕ → List ℕ → ℕ → List ClassedToken
given_at src t i =
    let p : ℕ = kind_at t (parent_at t i) in
    cond (is_node (kind_at t i)) [] (entry_of (class_of src p (kind_at t i) (start_at t i) (end_at t i)) (start_at t i) (end_at t i))

-- what the first i records give
unfoldable pub given_below : List ℕ → List ℕ → ℕ → List ClassedToken
given_below src t zero = []
given_below src t (suc i) = given_below src t i ++ given_at src t i

-- the records carry their parents: each is a record, and the classes of the tree are those of the records in their order
pub record Carries (t : List ℕ) : Type 0 where
  pub within : (i : ℕ) → i < count t → parent_at t i < count t
  pub flat : (src : List ℕ) → classes_of src t ≡ given_below src t (count t)
