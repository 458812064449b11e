-- Worked cases of the root at the cursor, computed: the deepest subquery, the statement, record 0; and a subquery on the path that has
-- no statement, where the search for a statement goes another way.
use Rattle.std.specs.Prelude.{ℕ, ◌≡◌, refl, List, [], ◌∷◌, ◌++◌}
use Rattle.records.specs.Kinds.{file, select_statement, subquery_expression, bare_word}
use Rattle.lent.specs.Numbers.{word}
use Rattle.records.specs.Table.{record_at, run, from}
use Rattle.forest.specs.Forest.{level, kids}
use Rattle.forest.specs.Descent.{path, path_of}
use Rattle.table.specs.worked.Worked.{rec}
use Rattle.statement.specs.Statement.{or_else, first_find, enclosing_at}
use Rattle.path.specs.Path.{deepest_or}
use Rattle.cursor_root.specs.Root.{root_of, root_at}

abbrev nested : List ℕ
nested =
    rec file 0 0 30
    ++ rec select_statement 1 0 20
    ++ rec subquery_expression 2 5 9
    ++ rec select_statement 3 6 9
    ++ rec subquery_expression 4 7 8
    ++ rec bare_word 5 7 8

roots : root_at nested 7
    ∷ root_at nested 9
    ∷ root_at nested 10
    ∷ root_at nested 25
    ∷ root_at nested 31
    ∷ root_at (rec file 0 0 9 ++ rec subquery_expression 1 0 5 ++ rec select_statement 1 5 9) 5
    ∷ []
    ≡ 4 ∷ 2 ∷ 1 ∷ 0 ∷ 0 ∷ 1 ∷ []
unfolding word record_at run from level kids path path_of or_else first_find enclosing_at deepest_or root_of root_at
roots = refl
