-- The morning in the spring: an alias of the outer query was taken for one of the inner query. Each alias, column and reference that is offered at
-- a cursor is of the cursor's own query, and each WITH name is of it, or of a query around it from where it is seen: said of the rows that the four
-- questions at the cursor say. Where the cursor stands in no statement, its query is the whole page. The words are in roots/specs/Nearest.antt.
-- The theorem is `spring` in proofs/Spring.antt; the frame of that morning is computed below.
use Rattle.std.specs.Prelude.{ℕ, ◌≡◌, refl, false, length, Ok}
use mathlib.Core.List.{List, [], ◌∷◌, ◌++◌, map, Memᴰ}
use Rattle.records.specs.Kinds.{file, select_statement, select_clause, from_clause, where_clause, subquery_expression, table_identifier, table_alias, column_reference, other_token, bare_word, opening_round, closing_round}
use Rattle.lent.specs.Numbers.{word}
use Rattle.records.specs.Table.{kind_at, record_at, run, from}
use Rattle.forest.specs.Forest.{level, kids, extent, stretch_end}
use Rattle.forest.specs.Descent.{path, path_of, along}
use Rattle.forest.specs.Tokens.{tokens_of, only}
use Rattle.conditions.specs.Conditions.{misplaced, nearest, last_end, bad_span}
use Rattle.refusals.specs.ByRecord.{rules_from}
use Rattle.table.specs.Rules.{verdict}
use Rattle.text.specs.Text.{bytes_of, upper, text, says}
use Rattle.table.specs.worked.Worked.{rec, child}
use Rattle.names.specs.Names.{is_as, is_part, is_name, direct, binding, last_named}
use Rattle.quotes.specs.Quotes.{unquoted, name_of}
use Rattle.names.specs.Bindings.{binding_row}
use Rattle.collection.specs.Collection.{node_gives, collected, collection, own_with, own_tables}
use Rattle.references.specs.References.{fresh, reference_row}
use Rattle.tables.specs.Tables.{aliased, hand_on, list_alias, table_reading}
use Rattle.lists.specs.Scope.{with_names}
use Rattle.roots.specs.Nearest.{OneRoot, DeepestQuery, TableAliasOf, ColumnAliasOf, TableRefOf, OwnOrSeen}
use Rattle.statement.specs.Statement.{or_else, first_find, enclosing_at}
use Rattle.path.specs.Path.{is_subquery, deepest_or, on_path, next_of}
use Rattle.tokens.specs.LastToken.{last_or, init, last_two, is_text, dotted}
use Rattle.contexts.specs.Trailing.{last_clause, past_clause, past_end, trailing_in}
use Rattle.contexts.specs.PathRules.{column_or, column, path_rules, ruled, else_ask as either, by_path}
use Rattle.cursor.specs.CursorContext.{last_rule, given_or, context_at}
use Rattle.contexts.specs.Context.{range_of, coded, context_row}
use Rattle.cursor_root.specs.Root.{root_of, root_at}
use Rattle.forest.specs.Above.{above_among}
use Rattle.enclosing.specs.Enclosing.{queries, some_query, beyond, statement_among, last_root, roots_among, enclosing_roots}
use Rattle.seen.specs.Seen.{own_seen}
use Rattle.items.specs.Items.{items, items_before, bound_by}
use Rattle.enclosing.specs.Offered.{seen_of_all, offered_in}
use Rattle.demands.specs.declared.Question.TheVariants.{CursorContext, TableAliases, TableRefs, WithNamesAt, TableAliasesAt, ColumnAliasesAt, TableRefsAt}
use Rattle.demands.specs.Questions.{Asked, asked, Said, number, rows, list, matter}
use Rattle.records.specs.Ranges.{absent_number}

-- ---- the theorem's statement

-- the row r is that of an entry of which P is true
pub record RowOf {E : Type 0} (row : E → List ℕ) (P : E → Type 0) (r : List ℕ) : Type 0 where
  pub it : E
  pub its-row : row it ≡ r
  pub is-so : P it

-- what is said is a list, and each of its rows is that of an entry of which P is true
unfoldable pub SaysOnly : {E : Type 0} → (E → List ℕ) → (E → Type 0) → Said → Type 0
SaysOnly row P (number n) = ⊥
SaysOnly row P (rows rs) = (r : List ℕ) → Memᴰ r rs → RowOf row P r

-- the cursor's root
abbrev pub root_of_cursor : Asked → ℕ
root_of_cursor a = root_at a.table a.offset

-- what is true of every answer at a cursor
pub record Spring (a : Asked) : Type 0 where
  -- every subquery on the path to the cursor is the cursor's root or has it below; where there is one, the root is one of them
  pub root : DeepestQuery a.table a.offset (root_of_cursor a)
  -- each table alias, column alias and reference stands in a clause, and at a node in it, whose nearest root is the cursor's root
  pub table-aliases : SaysOnly binding_row (TableAliasOf a.source a.table (root_of_cursor a)) (matter TableAliasesAt a).said
  pub column-aliases : SaysOnly binding_row (ColumnAliasOf a.source a.table (root_of_cursor a)) (matter ColumnAliasesAt a).said
  pub table-refs : SaysOnly reference_row (TableRefOf a.source a.table (root_of_cursor a)) (matter TableRefsAt a).said
  -- and nothing has another query's root, around or inside, for its nearest root too: so nothing of another query is among them
  pub one-root : OneRoot a.table
  -- each WITH name stands so too; or its nearest root is one around the cursor's, and neither its item nor one before it in its clause holds the cursor's query
  pub with-names : SaysOnly binding_row (OwnOrSeen a.source a.table (root_of_cursor a)) (matter WithNamesAt a).said
  -- the root's own WITH names come first, and alone where the root is no subquery
  pub more : List (List ℕ)
  pub own_first : (matter WithNamesAt a).said ≡ rows (map binding_row (with_names a.source a.table (root_of_cursor a)) ++ more)
  pub own_alone : is_subquery (kind_at a.table (root_of_cursor a)) ≡ false
      → (matter WithNamesAt a).said ≡ list binding_row (with_names a.source a.table (root_of_cursor a))

-- ---- that morning: the outer and the inner query both name an alias r, and the cursor stands behind the inner `r.`

abbrev source : List ℕ
source = bytes_of "SELECT r.id FROM labs r WHERE r.id IN (SELECT r. FROM raw r)"

abbrev cursor : ℕ
cursor = 48

abbrev table : List ℕ
table =
    rec file 0 0 60
    ++ rec select_statement 1 0 60
    ++ child 1 select_clause 2 0 11
    ++ child 2 bare_word 3 0 6
    ++ child 2 column_reference 3 7 11
    ++ child 4 bare_word 4 7 8
    ++ child 4 other_token 4 8 9
    ++ child 4 bare_word 4 9 11
    ++ child 1 from_clause 2 12 23
    ++ child 8 bare_word 3 12 16
    ++ child 8 table_identifier 3 17 21
    ++ child 10 bare_word 4 17 21
    ++ child 8 table_alias 3 22 23
    ++ child 12 bare_word 4 22 23
    ++ child 1 where_clause 2 24 60
    ++ child 14 bare_word 3 24 29
    ++ child 14 column_reference 3 30 34
    ++ child 16 bare_word 4 30 31
    ++ child 16 other_token 4 31 32
    ++ child 16 bare_word 4 32 34
    ++ child 14 bare_word 3 35 37
    ++ child 14 opening_round 3 38 39
    ++ child 14 subquery_expression 3 39 59
    ++ child 22 select_statement 4 39 59
    ++ child 23 select_clause 5 39 48
    ++ child 24 bare_word 6 39 45
    ++ child 24 column_reference 6 46 48
    ++ child 26 bare_word 7 46 47
    ++ child 26 other_token 7 47 48
    ++ child 23 from_clause 5 49 59
    ++ child 29 bare_word 6 49 53
    ++ child 29 table_identifier 6 54 57
    ++ child 31 bare_word 7 54 57
    ++ child 29 table_alias 6 58 59
    ++ child 33 bare_word 7 58 59
    ++ child 14 closing_round 3 59 60

abbrev that : Asked
that = asked table source [] cursor [] 0 []

-- no name; and a name without quotes, which has the same range twice
abbrev no_name : List ℕ
no_name = absent_number ∷ absent_number ∷ absent_number ∷ absent_number ∷ []

abbrev bare : ℕ → ℕ → List ℕ
bare s e = s ∷ e ∷ s ∷ e ∷ []

-- the table is admitted, and the three names are one word
that-morning : (verdict table (length source) 0 ≡ Ok tt) × (text source 22 23 ≡ text source 46 47) × (text source 58 59 ≡ text source 46 47)
unfolding bytes_of verdict rules_from misplaced nearest bad_span last_end word text
that-morning = (refl, refl, refl)

-- what is being typed there is a column of the table that r names
typed : (matter CursorContext that).said ≡ rows ((3 ∷ 46 ∷ 47 ∷ 0 ∷ []) ∷ [])
unfolding matter word record_at run from level kids path path_of along tokens_of only text bytes_of deepest_or on_path last_or init last_two is_text dotted last_clause past_clause past_end trailing_in next_of column_or column path_rules ruled either by_path last_rule given_or context_at range_of coded context_row
typed = refl

-- before: the outer query's r, which is of labs
before : ((matter TableAliases that).said ≡ rows ((22 ∷ 23 ∷ 22 ∷ 23 ∷ 22 ∷ 23 ∷ []) ∷ []))
    × ((matter TableRefs that).said ≡ rows ((10 ∷ no_name ++ bare 17 21 ++ bare 22 23) ∷ []))
unfolding matter collection collected node_gives own_tables table_reading hand_on list_alias aliased fresh last_named binding name_of unquoted is_name is_as says text upper bytes_of is_part direct kids level from run record_at word stretch_end extent
before = (refl, refl)

-- now: the inner query's r, which is of raw, and nothing else
now : ((matter TableAliasesAt that).said ≡ rows ((58 ∷ 59 ∷ 58 ∷ 59 ∷ 58 ∷ 59 ∷ []) ∷ []))
    × ((matter TableRefsAt that).said ≡ rows ((31 ∷ no_name ++ bare 54 57 ++ bare 58 59) ∷ []))
unfolding matter collection collected node_gives own_tables table_reading hand_on list_alias aliased fresh last_named binding name_of unquoted is_name is_as says text upper bytes_of is_part direct kids level from run record_at word stretch_end extent path path_of or_else first_find enclosing_at deepest_or root_of root_at
now = (refl, refl)

-- neither query has a WITH clause, and no WITH name is offered
now-with : (matter WithNamesAt that).said ≡ rows []
unfolding matter collection collected node_gives own_with bytes_of kids level from run record_at word stretch_end extent path path_of or_else first_find enclosing_at deepest_or root_of root_at above_among queries some_query beyond statement_among last_root roots_among enclosing_roots items items_before bound_by own_seen seen_of_all offered_in
now-with = refl
