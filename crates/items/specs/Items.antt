-- Document 02, §4: the items of a WITH clause, and those of them that an inner query sees.
-- src is the source's bytes, t the table's, n the number of the inner query's record.
-- Definitions only.
use Rattle.std.specs.Prelude.{ℕ, cond, List, [], ◌∷◌, ◌++◌, eqb}
use Rattle.records.specs.declared.record.Rec.{Rec}
use Rattle.records.specs.Kinds.{with_expression_item, column_list}
use Rattle.forest.specs.Forest.{Forest, nil, token, node}
use Rattle.forest.specs.Above.{stands_below}
use Rattle.names.specs.declared.names.NameBinding.{NameBinding}
use Rattle.names.specs.Names.{with_item}
use Rattle.names.specs.Bindings.{entry}

-- an item of a WITH clause: its record, and what is below it
pub record Item : Type 0 where
  pub self : Rec
  pub below : Forest

-- the items of a With with these children, also through ColumnList at any nesting, in reading order
unfoldable pub items : Forest → List Item
items nil = []
items (token r rest) = items rest
items (node r below rest) =
    let inside : List Item = items below in
    let through : List Item = cond (eqb r.kind column_list) inside [] in
    cond (eqb r.kind with_expression_item) (record { self = r; below = below } ∷ []) through ++ items rest

-- of a clause whose item holds the inner query, that item and the later ones are left out
unfoldable pub items_before : List ℕ → ℕ → List Item → List Item
items_before t n [] = []
items_before t n (i ∷ is) =
    let on : List Item = items_before t n is in
    let more : List Item = i ∷ on in
    cond (stands_below t i.self.index n) [] more

-- what items bind: without a name there is no entry
unfoldable pub bound_by : List ℕ → List Item → List NameBinding
bound_by src [] = []
bound_by src (i ∷ is) = entry (with_item src i.self i.below) ++ bound_by src is
