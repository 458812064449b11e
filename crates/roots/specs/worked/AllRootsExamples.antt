-- Demand 3's words on one tree: two roots, a WITH, a JOIN inside FROM and a table expression. Of five table names the one below WITH is
-- not reached, the one below JOIN is reached by JOIN and by FROM, and the one in the subquery stands under the subquery alone.
use Rattle.std.specs.Prelude.{ℕ, ◌≡◌, refl, Bool, cond, List, [], ◌∷◌, ◌++◌, map, length, Ok}
use Rattle.records.specs.Kinds.{file, select_statement, with_clause, from_clause, join_clause, where_clause, subquery_expression, table_identifier, table_expression, bare_word}
use Rattle.lent.specs.Numbers.{word}
use Rattle.records.specs.Table.{record_at, run, from}
use Rattle.forest.specs.Forest.{level, kids, extent, stretch_end}
use Rattle.conditions.specs.Conditions.{misplaced, nearest, last_end, bad_span}
use Rattle.refusals.specs.ByRecord.{rules_from}
use Rattle.table.specs.Rules.{verdict}
use Rattle.forest.specs.Places.{Place, places, nodes_of, sum}
use Rattle.text.specs.Text.{bytes_of}
use Rattle.table.specs.worked.Worked.{rec, child}
use Rattle.names.specs.Names.{is_part, direct}
use Rattle.references.specs.declared.pending.TableRef.{TableRef}
use Rattle.references.specs.References.{fresh}
use Rattle.tables.specs.Tables.{hand_on, table_reading}
use Rattle.collection.specs.Collection.{node_gives, collected, collection, own_tables}
use Rattle.lists.specs.Scope.{table_refs}
use Rattle.roots.specs.Reach.{is_top, is_root, one_or_two, is_table_name, root_is, up_to_root, every, reach, reaching, reaches}

-- WITH .. FROM w; FROM a, (b) JOIN c; WHERE .. (.. FROM d)
abbrev source : List ℕ
source = bytes_of "wabcd"

abbrev tree : List ℕ
tree =
    rec file 0 0 5
    ++ rec select_statement 1 0 5
    ++ child 1 with_clause 2 0 1
    ++ child 2 from_clause 3 0 1
    ++ child 3 table_identifier 4 0 1
    ++ child 4 bare_word 5 0 1
    ++ child 1 from_clause 2 1 4
    ++ child 6 table_identifier 3 1 2
    ++ child 7 bare_word 4 1 2
    ++ child 6 table_expression 3 2 3
    ++ child 9 table_identifier 4 2 3
    ++ child 10 bare_word 5 2 3
    ++ child 6 join_clause 3 3 4
    ++ child 12 table_identifier 4 3 4
    ++ child 13 bare_word 5 3 4
    ++ child 1 where_clause 2 4 5
    ++ child 15 subquery_expression 3 4 5
    ++ child 16 from_clause 4 4 5
    ++ child 17 table_identifier 5 4 5
    ++ child 18 bare_word 6 4 5

-- what f says of the nodes of which a test holds, each with its record number
pub record Of : Type 0 where
  pub number : ℕ
  pub is : ℕ

unfoldable about : (Place → Bool) → (Place → ℕ) → List Place → List Of
about test f [] = []
about test f (p ∷ ps) =
    let on : List Of = about test f ps in
    let more : List Of = record { number = p.self.index; is = f p } ∷ on in
    cond (test p) more on

abbrev of : ℕ → ℕ → Of
of i n = record { number = i; is = n }

-- how often each name is reached: 4 is below WITH, 13 below JOIN
counted : (verdict tree (length source) 0 ≡ Ok tt)
    × (about is_table_name reaches (nodes_of tree) ≡ of 4 0 ∷ of 7 1 ∷ of 10 1 ∷ of 13 2 ∷ of 18 1 ∷ [])
unfolding bytes_of verdict rules_from misplaced nearest bad_span last_end word record_at run from level kids places about is_table_name one_or_two is_part direct reach reaching up_to_root every
counted = (refl, refl)

-- under which root: record 0 or the subquery, record 16
rooted : (about is_root (λ p. 0) (nodes_of tree) ≡ of 0 0 ∷ of 16 0 ∷ [])
    × (about is_table_name (λ p. cond (root_is 0 p.above) 1 0) (nodes_of tree) ≡ of 4 1 ∷ of 7 1 ∷ of 10 1 ∷ of 13 1 ∷ of 18 0 ∷ [])
    × (about is_table_name (λ p. cond (root_is 16 p.above) 1 0) (nodes_of tree) ≡ of 4 0 ∷ of 7 0 ∷ of 10 0 ∷ of 13 0 ∷ of 18 1 ∷ [])
unfolding word record_at run from level kids places about is_top is_root is_table_name one_or_two is_part direct root_is
rooted = (refl, refl, refl)

-- so five entries in all, and these they are
total : sum (λ (p : Place). cond (is_table_name p) (reaches p) 0) (nodes_of tree) ≡ 5
unfolding word record_at run from level kids places sum is_table_name one_or_two is_part direct reach reaching up_to_root every
total = refl

lists : (map (λ (e : TableRef). e.«record») (table_refs source tree 0) ≡ 10 ∷ 7 ∷ 13 ∷ 13 ∷ [])
    × (map (λ (e : TableRef). e.«record») (table_refs source tree 16) ≡ 18 ∷ [])
unfolding collection collected node_gives own_tables table_reading hand_on fresh bytes_of is_part direct kids level from run record_at word stretch_end extent
lists = (refl, refl)
