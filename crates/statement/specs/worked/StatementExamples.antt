-- Worked cases of the enclosing statement, computed.
use Rattle.std.specs.Prelude.{ℕ, ◌≡◌, refl, List, [], ◌∷◌, ◌++◌, map, Some, None}
use Rattle.records.specs.declared.record.Rec.{Rec}
use Rattle.records.specs.Kinds.{file, select_statement, insert_statement, describe_statement, with_clause, subquery_expression, bare_word}
use Rattle.lent.specs.Numbers.{word}
use Rattle.records.specs.Table.{record_at, run, from, records}
use Rattle.forest.specs.Forest.{level, kids}
use Rattle.forest.specs.Descent.{path, path_of}
use Rattle.records.specs.Ranges.{holds}
use Rattle.table.specs.worked.Worked.{rec}
use Rattle.statement.specs.Statement.{or_else, first_find, enclosing_at}

-- a statement 0..20 with a subquery 5..9 that has one of its own, an empty statement, and a second statement 9..12 in a clause
abbrev nested : List ℕ
nested =
    rec file 0 0 30
    ++ rec select_statement 1 0 20
    ++ rec subquery_expression 2 5 9
    ++ rec select_statement 3 6 9
    ++ rec bare_word 4 6 9
    ++ rec insert_statement 2 9 8
    ++ rec with_clause 2 9 12
    ++ rec describe_statement 3 9 12

-- inside both; at the end of one and the start of another the first counts; in the second; outside all; past a node the search goes on
finds : enclosing_at nested 7
    ∷ enclosing_at nested 9
    ∷ enclosing_at nested 10
    ∷ enclosing_at nested 5
    ∷ enclosing_at nested 21
    ∷ enclosing_at nested 31
    ∷ enclosing_at (rec file 0 4294967295 0 ++ rec select_statement 1 0 9) 5
    ∷ enclosing_at (rec file 0 0 9 ++ rec with_clause 1 0 5 ++ rec select_statement 1 5 9) 5
    ∷ []
    ≡ Some 3 ∷ Some 3 ∷ Some 7 ∷ Some 1 ∷ None ∷ None ∷ None ∷ Some 2 ∷ []
unfolding word record_at run from level kids or_else first_find enclosing_at
finds = refl

-- a statement 0..9 with a clause 0..5 that has a subquery 2..5 with no statement, and beside the clause a subquery 5..9 with one
abbrev parted : List ℕ
parted =
    rec file 0 0 9
    ++ rec select_statement 1 0 9
    ++ rec with_clause 2 0 5
    ++ rec subquery_expression 3 2 5
    ++ rec subquery_expression 2 5 9
    ++ rec select_statement 3 5 9

-- at 5 the path goes into the clause and ends in its subquery; the search goes on, and gives a statement off the path
off-path : (map (λ (r : Rec). r.index) (path_of (holds 5) (records 0 parted)) ≡ 0 ∷ 1 ∷ 2 ∷ 3 ∷ []) × (enclosing_at parted 5 ≡ Some 5)
unfolding word record_at run from level kids path path_of or_else first_find enclosing_at
off-path = (refl, refl)

-- two statements side by side, the second from where the first ends
abbrev beside : List ℕ
beside = rec file 0 0 12 ++ rec select_statement 1 0 6 ++ rec insert_statement 1 6 12

-- at 6 both hold the offset, and the first is taken; from 7 on it is the second
first-of-two : enclosing_at beside 5 ∷ enclosing_at beside 6 ∷ enclosing_at beside 7 ∷ [] ≡ Some 1 ∷ Some 1 ∷ Some 2 ∷ []
unfolding word record_at run from level kids or_else first_find enclosing_at
first-of-two = refl
