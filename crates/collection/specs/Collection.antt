-- Collection: a node's own part of each list, and then each child's.
-- src is the source's bytes.
-- Definitions only.
use Rattle.std.specs.Prelude.{ℕ, cond, ◌||◌, List, [], ◌++◌, eqb, None}
use Rattle.records.specs.declared.record.Rec.{Rec}
use Rattle.records.specs.Kinds.{with_clause, select_clause, from_clause, join_clause, subquery_expression}
use Rattle.forest.specs.Forest.{Forest, nil, token, node, kids, stretch_end}
use Rattle.names.specs.declared.names.NameBinding.{NameBinding}
use Rattle.names.specs.Bindings.{with_items, select_aliases}
use Rattle.tables.specs.Tables.{Listing, table_reading}
use Rattle.records.specs.Table.{record_at, records, part}

-- ---- collection, of a list whose entries a node of kind k with these children gives as its own part: `own k below`

-- a node's own part, and then what its children give; With isn't entered further
unfoldable pub node_gives : {E : Type 0} → (ℕ → Forest → List E) → ℕ → Forest → List E → List E
node_gives own k below inner = own k below ++ cond (eqb k with_clause) [] inner

-- the children's collections, child subqueries left unvisited
unfoldable pub collected : {E : Type 0} → (ℕ → Forest → List E) → Forest → List E
collected own nil = []
collected own (token r rest) = collected own rest
collected {E} own (node r below rest) =
    let visited : List E = node_gives own r.kind below (collected own below) in
    cond (eqb r.kind subquery_expression) [] visited ++ collected own rest

-- the collection of the node r with these children
unfoldable pub collection : {E : Type 0} → (ℕ → Forest → List E) → Rec → Forest → List E
collection own r below = node_gives own r.kind below (collected own below)

-- ---- a node's own part of each list, by its kind

-- With gives its items
unfoldable pub own_with : List ℕ → ℕ → Forest → List NameBinding
own_with src k below = cond (eqb k with_clause) (with_items src below) []

-- Select gives the column aliases
unfoldable pub own_columns : List ℕ → ℕ → Forest → List NameBinding
own_columns src k below = cond (eqb k select_clause) (select_aliases src below) []

-- From and Join run the table reading
unfoldable pub own_tables : {E : Type 0} → Listing E → List ℕ → ℕ → Forest → List E
own_tables L src k below = cond (eqb k from_clause || eqb k join_clause) (table_reading L src None below) []

-- the collection of the first record of the stretch s, whose number is base
abbrev pub collection_of : {E : Type 0} → (ℕ → Forest → List E) → ℕ → List ℕ → List E
collection_of own base s = collection own (record_at s base 0) (kids (records base s))

-- the collection of record i: of its stretch of records
abbrev pub collection_at : {E : Type 0} → (ℕ → Forest → List E) → List ℕ → ℕ → List E
collection_at own t i = collection_of own i (part t i (stretch_end t i))
