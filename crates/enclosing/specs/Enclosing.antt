-- Document 02, §4: the roots around a root.
-- t is the table's bytes, n a record's number, xs the numbers of nodes, nearest first.
-- Definitions only.
use Rattle.std.specs.Prelude.{ℕ, Bool, false, cond, ◌||◌, List, [], ◌∷◌, ◌++◌}
use Rattle.records.specs.Table.{kind_at}
use Rattle.forest.specs.Above.{above}
use Rattle.path.specs.Path.{is_subquery}
use Rattle.statement.specs.Statement.{is_statement}

-- the kind 30 nodes among them
unfoldable pub queries : List ℕ → List ℕ → List ℕ
queries t [] = []
queries t (x ∷ xs) =
    let on : List ℕ = queries t xs in
    let more : List ℕ = x ∷ on in
    cond (is_subquery (kind_at t x)) more on

-- one of them is of kind 30
unfoldable pub some_query : List ℕ → List ℕ → Bool
some_query t [] = false
some_query t (x ∷ xs) = is_subquery (kind_at t x) || some_query t xs

-- what stands above the outermost kind 30 node among them: all of them where there is none
unfoldable pub beyond : List ℕ → List ℕ → List ℕ
beyond t [] = []
beyond t (x ∷ xs) = let on : List ℕ = beyond t xs in cond (some_query t (x ∷ xs)) on (x ∷ xs)

-- the nearest statement among them, else record 0
unfoldable pub statement_among : List ℕ → List ℕ → ℕ
statement_among t [] = 0
statement_among t (x ∷ xs) = let on : ℕ = statement_among t xs in cond (is_statement (kind_at t x)) x on

-- the last enclosing root, where xs stand above the outermost kind 30 node. Where nothing does, that node is record 0, which counts once
unfoldable pub last_root : List ℕ → List ℕ → List ℕ
last_root t [] = []
last_root t (x ∷ xs) = statement_among t (x ∷ xs) ∷ []

-- the roots around nodes with xs above them: the kind 30 nodes, then the nearest statement above the outermost, else record 0
unfoldable pub roots_among : List ℕ → List ℕ → List ℕ
roots_among t xs = queries t xs ++ last_root t (beyond t xs)

-- the enclosing roots of the root n, nearest first: only a root of kind 30 has any
unfoldable pub enclosing_roots : List ℕ → ℕ → List ℕ
enclosing_roots t n = cond (is_subquery (kind_at t n)) (roots_among t (above t n)) []
