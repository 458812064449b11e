-- What stands above a record, computed.
use Rattle.std.specs.Prelude.{◌≡◌, refl, List, [], ◌∷◌, ◌++◌, ℕ}
use Rattle.records.specs.Kinds.{file, select_statement, from_clause, table_identifier, bare_word}
use Rattle.lent.specs.Numbers.{word}
use Rattle.records.specs.Table.{record_at, run, from}
use Rattle.forest.specs.Forest.{extent, stretch_end}
use Rattle.forest.specs.Above.{above_among, above}
use Rattle.table.specs.worked.Worked.{rec, child}

-- two statements; in the second, FROM with a table's name
abbrev page : List ℕ
page =
    rec file 0 0 9 ++ rec select_statement 1 0 3 ++ child 1 bare_word 2 0 3 ++ rec select_statement 1 3 9
    ++ child 3 from_clause 2 3 9 ++ child 4 table_identifier 3 3 9 ++ child 5 bare_word 4 3 9

-- of a token, nearest first; of a node; of one just below record 0; of record 0
upward : above page 6 ∷ above page 5 ∷ above page 3 ∷ above page 2 ∷ above page 0 ∷ [] ≡ (5 ∷ 4 ∷ 3 ∷ 0 ∷ []) ∷ (4 ∷ 3 ∷ 0 ∷ []) ∷ (0 ∷ []) ∷ (1 ∷ 0 ∷ []) ∷ [] ∷ []
unfolding above_among stretch_end extent from run record_at word
upward = refl
