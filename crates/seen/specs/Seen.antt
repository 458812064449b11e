-- Document 02, §4: the WITH names of a root, as a query inside it sees them.
-- src is the source's bytes, t the table's, n the number of the inner query's record.
-- Definitions only.
use Rattle.std.specs.Prelude.{ℕ, cond, List, [], eqb}
use Rattle.records.specs.Kinds.{with_clause}
use Rattle.forest.specs.Forest.{Forest}
use Rattle.names.specs.declared.names.NameBinding.{NameBinding}
use Rattle.collection.specs.Collection.{collection_at}
use Rattle.items.specs.Items.{items, items_before, bound_by}

-- With gives the items that the inner query sees
unfoldable pub own_seen : List ℕ → List ℕ → ℕ → ℕ → Forest → List NameBinding
own_seen src t n k below = cond (eqb k with_clause) (bound_by src (items_before t n (items below))) []

-- the WITH names of the root i that the inner query sees
abbrev pub seen_of : List ℕ → List ℕ → ℕ → ℕ → List NameBinding
seen_of src t n i = collection_at (own_seen src t n) t i
