-- Worked cases of the WITH names at the cursor, computed, over one frame:
--     WITH a AS (x), b AS (SELECT (y)), c AS (x) SELECT (SELECT (z))
-- The item b holds two subqueries, one in the other, and the SELECT two more. A file around it has another statement with a WITH name.
use Rattle.std.specs.Prelude.{ℕ, ◌≡◌, refl, List, [], ◌∷◌, ◌++◌, map}
use Rattle.records.specs.Kinds.{file, select_statement, with_clause, select_clause, with_expression_item, subquery_expression, column_list, bare_word}
use Rattle.lent.specs.Numbers.{word}
use Rattle.records.specs.Table.{record_at, run, from}
use Rattle.forest.specs.Forest.{level, kids, extent, stretch_end}
use Rattle.text.specs.Text.{bytes_of, upper, text, says}
use Rattle.table.specs.worked.Worked.{rec}
use Rattle.names.specs.declared.names.NameBinding.{NameBinding}
use Rattle.names.specs.Names.{is_as, is_name, direct, binding, first_named}
use Rattle.quotes.specs.Quotes.{unquoted, name_of}
use Rattle.names.specs.Bindings.{entry, bound_in}
use Rattle.collection.specs.Collection.{node_gives, collected, collection, own_with}
use Rattle.forest.specs.Above.{above_among}
use Rattle.enclosing.specs.Enclosing.{queries, some_query, beyond, statement_among, last_root, roots_among, enclosing_roots}
use Rattle.seen.specs.Seen.{own_seen}
use Rattle.items.specs.Items.{items, items_before, bound_by}
use Rattle.enclosing.specs.Offered.{seen_of_all, offered_in}

-- the names by their place: a at 0, b at 1, c at 2, i at 3, o at 4
abbrev source : List ℕ
source = bytes_of "abcio"

-- the records of a statement around record 0's kind, with the first statement's WITH name o before it
abbrev frame : ℕ → List ℕ
frame top =
    rec top 0 0 5
    ++ rec select_statement 1 0 1
    ++ rec with_clause 2 0 1
    ++ rec with_expression_item 3 0 1
    ++ rec bare_word 4 4 5
    ++ rec select_statement 1 0 5
    ++ rec with_clause 2 0 3
    ++ rec with_expression_item 3 0 1
    ++ rec bare_word 4 0 1
    ++ rec column_list 3 1 3
    ++ rec with_expression_item 4 1 2
    ++ rec bare_word 5 1 2
    ++ rec subquery_expression 5 1 2
    ++ rec with_clause 6 1 2
    ++ rec with_expression_item 7 1 2
    ++ rec bare_word 8 3 4
    ++ rec subquery_expression 6 1 2
    ++ rec with_expression_item 4 2 3
    ++ rec bare_word 5 2 3
    ++ rec select_clause 2 3 5
    ++ rec subquery_expression 3 3 5
    ++ rec subquery_expression 4 4 5

-- where a name starts
abbrev start_of : NameBinding → ℕ
start_of b = b.name.start

-- the places of the names that are offered at a root
abbrev offered : ℕ → ℕ → List ℕ
offered top n = map start_of (offered_in source (frame top) n)

-- of the statement its own names; of the subquery in the item b its own i and then a, which comes before b; in the one inside it the same from
-- its two roots; in the SELECT all three; and none of the other statement's
roots : (offered file 5 ≡ 0 ∷ 1 ∷ 2 ∷ [])
    × (offered file 12 ≡ 3 ∷ 0 ∷ [])
    × (offered file 16 ≡ 3 ∷ 0 ∷ [])
    × (offered file 20 ≡ 0 ∷ 1 ∷ 2 ∷ [])
    × (offered file 21 ≡ 0 ∷ 1 ∷ 2 ∷ [])
unfolding bytes_of word record_at run from level kids extent stretch_end text upper says is_as is_name direct unquoted name_of binding first_named entry bound_in node_gives collected collection own_with above_among queries some_query beyond statement_among last_root roots_among enclosing_roots items items_before bound_by own_seen seen_of_all offered_in
roots = (refl, refl, refl, refl, refl)

-- the enclosing roots, nearest first: the outermost's nearest statement, else record 0; where record 0 is of kind 30 it counts once
around : (enclosing_roots (frame file) 16 ≡ 12 ∷ 5 ∷ [])
    × (enclosing_roots (frame file) 5 ≡ [])
    × (enclosing_roots (frame subquery_expression) 16 ≡ 12 ∷ 0 ∷ [])
    × (enclosing_roots (frame subquery_expression) 0 ≡ [])
    × (enclosing_roots (rec file 0 0 9 ++ rec with_clause 1 0 9 ++ rec subquery_expression 2 0 9) 2 ≡ 0 ∷ [])
unfolding word record_at run from extent stretch_end above_among queries some_query beyond statement_among last_root roots_among enclosing_roots
around = (refl, refl, refl, refl, refl)
