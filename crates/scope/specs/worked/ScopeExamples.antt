-- Small tables worked out, as a check of the definitions.
use Rattle.std.specs.Prelude.{◌≡◌, refl, List, [], ◌∷◌, ◌++◌, map, ℕ}
use Rattle.records.specs.Kinds.{file, select_statement, with_clause, select_clause, from_clause, join_clause, with_expression_item, subquery_expression, column_list, expression_list, table_identifier, table_expression, table_alias, column_alias, bare_word, quoted_identifier}
use Rattle.lent.specs.Numbers.{word}
use Rattle.records.specs.Table.{record_at, run, from}
use Rattle.forest.specs.Forest.{level, kids, extent, stretch_end}
use Rattle.table.specs.worked.Worked.{rec}
use Rattle.text.specs.Text.{bytes_of, upper, text, says}
use Rattle.names.specs.Names.{is_as, is_part, is_name, direct, binding, first_named, last_named}
use Rattle.quotes.specs.Quotes.{unquoted, name_of}
use Rattle.collection.specs.Collection.{node_gives, collected, collection, own_with, own_columns, own_tables}
use Rattle.names.specs.Bindings.{entry, bound_in, binding_row}
use Rattle.references.specs.References.{fresh, reference_row}
use Rattle.tables.specs.Tables.{aliased, hand_on, list_alias, table_reading}
use Rattle.lists.specs.Scope.{with_names, table_aliases, column_aliases, table_refs}

abbrev none : ℕ
none = 4294967295

-- no name; and a name without quotes, which has the same range twice
abbrev no_name : List ℕ
no_name = none ∷ none ∷ none ∷ none ∷ []

abbrev bare : ℕ → ℕ → List ℕ
bare s e = s ∷ e ∷ s ∷ e ∷ []

-- P: FROM a JOIN b gives a, b, b
abbrev joined : List ℕ
joined =
    rec file 0 0 13 ++ rec from_clause 1 0 13 ++ rec table_identifier 2 5 6 ++ rec bare_word 3 5 6 ++ rec join_clause 2 7 13
    ++ rec table_identifier 3 12 13 ++ rec bare_word 4 12 13

joined-refs : map reference_row (table_refs [] joined 0)
    ≡ (2 ∷ no_name ++ bare 5 6 ++ no_name) ∷ (5 ∷ no_name ++ bare 12 13 ++ no_name) ∷ (5 ∷ no_name ++ bare 12 13 ++ no_name) ∷ []
unfolding collection collected node_gives own_with own_columns own_tables bound_in entry table_reading hand_on list_alias aliased fresh first_named last_named binding name_of unquoted is_name is_as says text upper bytes_of is_part direct kids level from run record_at word stretch_end extent
joined-refs = refl

-- P: three name parts give no reference. The alias behind them has none pending, and gives no entry
abbrev three : List ℕ
three =
    rec from_clause 0 0 13 ++ rec table_identifier 1 5 10 ++ rec bare_word 2 5 6 ++ rec bare_word 2 7 8 ++ rec quoted_identifier 2 9 10
    ++ rec table_alias 1 11 12 ++ rec bare_word 2 11 12

three-refs : map reference_row (table_refs [] three 0) ≡ []
unfolding collection collected node_gives own_with own_columns own_tables bound_in entry table_reading hand_on list_alias aliased fresh first_named last_named binding name_of unquoted is_name is_as says text upper bytes_of is_part direct kids level from run record_at word stretch_end extent
three-refs = refl

three-aliases : map binding_row (table_aliases [] three 0) ≡ []
unfolding collection collected node_gives own_with own_columns own_tables bound_in entry table_reading hand_on list_alias aliased fresh first_named last_named binding name_of unquoted is_name is_as says text upper bytes_of is_part direct kids level from run record_at word stretch_end extent
three-aliases = refl

-- `FROM a r (FROM b r)`: the inner and the outer query both name an alias r; each root has its own alone
abbrev both : List ℕ
both =
    rec select_statement 0 0 19 ++ rec from_clause 1 0 19 ++ rec table_identifier 2 5 6 ++ rec bare_word 3 5 6 ++ rec table_alias 2 7 8 ++ rec bare_word 3 7 8
    ++ rec subquery_expression 2 9 19 ++ rec from_clause 3 10 18 ++ rec table_identifier 4 15 16 ++ rec bare_word 5 15 16 ++ rec table_alias 4 17 18 ++ rec bare_word 5 17 18

both-outer-refs : map reference_row (table_refs [] both 0) ≡ (2 ∷ no_name ++ bare 5 6 ++ bare 7 8) ∷ []
unfolding collection collected node_gives own_with own_columns own_tables bound_in entry table_reading hand_on list_alias aliased fresh first_named last_named binding name_of unquoted is_name is_as says text upper bytes_of is_part direct kids level from run record_at word stretch_end extent
both-outer-refs = refl

both-outer-aliases : map binding_row (table_aliases [] both 0) ≡ (7 ∷ 8 ∷ 7 ∷ 8 ∷ 7 ∷ 8 ∷ []) ∷ []
unfolding collection collected node_gives own_with own_columns own_tables bound_in entry table_reading hand_on list_alias aliased fresh first_named last_named binding name_of unquoted is_name is_as says text upper bytes_of is_part direct kids level from run record_at word stretch_end extent
both-outer-aliases = refl

both-inner-refs : map reference_row (table_refs [] both 6) ≡ (8 ∷ no_name ++ bare 15 16 ++ bare 17 18) ∷ []
unfolding collection collected node_gives own_with own_columns own_tables bound_in entry table_reading hand_on list_alias aliased fresh first_named last_named binding name_of unquoted is_name is_as says text upper bytes_of is_part direct kids level from run record_at word stretch_end extent
both-inner-refs = refl

both-inner-aliases : map binding_row (table_aliases [] both 6) ≡ (17 ∷ 18 ∷ 17 ∷ 18 ∷ 17 ∷ 18 ∷ []) ∷ []
unfolding collection collected node_gives own_with own_columns own_tables bound_in entry table_reading hand_on list_alias aliased fresh first_named last_named binding name_of unquoted is_name is_as says text upper bytes_of is_part direct kids level from run record_at word stretch_end extent
both-inner-aliases = refl

-- the source of the next one: ``WITH x a_s 1,As `z```
abbrev items : List ℕ
items = 87 ∷ 73 ∷ 84 ∷ 72 ∷ 32 ∷ 120 ∷ 32 ∷ 97 ∷ 83 ∷ 32 ∷ 49 ∷ 44 ∷ 65 ∷ 115 ∷ 32 ∷ 96 ∷ 122 ∷ 96 ∷ []

-- WITH items through lists of lists; AS is no name, an item without a name gives no entry, and the With is not entered further
abbrev listed : List ℕ
listed =
    rec with_clause 0 0 18 ++ rec bare_word 1 0 4 ++ rec column_list 1 5 18 ++ rec with_expression_item 2 5 11 ++ rec bare_word 3 5 6 ++ rec bare_word 3 7 9
    ++ rec column_list 2 12 18 ++ rec with_expression_item 3 12 18 ++ rec bare_word 4 12 14 ++ rec quoted_identifier 4 15 18
    ++ rec with_expression_item 1 12 14 ++ rec bare_word 2 12 14 ++ rec from_clause 1 5 6 ++ rec table_identifier 2 5 6 ++ rec bare_word 3 5 6

listed-names : map binding_row (with_names items listed 0) ≡ (5 ∷ 6 ∷ 5 ∷ 6 ∷ 5 ∷ 11 ∷ []) ∷ (15 ∷ 18 ∷ 16 ∷ 17 ∷ 12 ∷ 18 ∷ []) ∷ []
unfolding collection collected node_gives own_with own_columns own_tables bound_in entry table_reading hand_on list_alias aliased fresh first_named last_named binding name_of unquoted is_name is_as says text upper bytes_of is_part direct kids level from run record_at word stretch_end extent
listed-names = refl

listed-refs : map reference_row (table_refs items listed 0) ≡ []
unfolding collection collected node_gives own_with own_columns own_tables bound_in entry table_reading hand_on list_alias aliased fresh first_named last_named binding name_of unquoted is_name is_as says text upper bytes_of is_part direct kids level from run record_at word stretch_end extent
listed-refs = refl

-- the source of the next one: ``1 AS "",2 `,3 b c``
abbrev columns : List ℕ
columns = 49 ∷ 32 ∷ 65 ∷ 83 ∷ 32 ∷ 34 ∷ 34 ∷ 44 ∷ 50 ∷ 32 ∷ 96 ∷ 44 ∷ 51 ∷ 32 ∷ 98 ∷ 32 ∷ 99 ∷ []

-- column aliases through both kinds of list: an empty quoted alias has an empty name, a lone quote mark keeps its range, the last name counts
abbrev chosen : List ℕ
chosen =
    rec select_clause 0 0 17 ++ rec column_list 1 0 17 ++ rec column_alias 2 2 7 ++ rec bare_word 3 2 4 ++ rec quoted_identifier 3 5 7
    ++ rec expression_list 2 8 17 ++ rec column_alias 3 10 11 ++ rec quoted_identifier 4 10 11 ++ rec column_list 3 14 17 ++ rec column_alias 4 14 17 ++ rec bare_word 5 14 15 ++ rec bare_word 5 16 17

chosen-aliases : map binding_row (column_aliases columns chosen 0) ≡ (5 ∷ 7 ∷ 6 ∷ 6 ∷ 2 ∷ 7 ∷ []) ∷ (10 ∷ 11 ∷ 10 ∷ 11 ∷ 10 ∷ 11 ∷ []) ∷ (16 ∷ 17 ∷ 16 ∷ 17 ∷ 14 ∷ 17 ∷ []) ∷ []
unfolding collection collected node_gives own_with own_columns own_tables bound_in entry table_reading hand_on list_alias aliased fresh first_named last_named binding name_of unquoted is_name is_as says text upper bytes_of is_part direct kids level from run record_at word stretch_end extent
chosen-aliases = refl

-- the source of the next one: ``FROM `d`.`t` `r` s``
abbrev quoted : List ℕ
quoted = 70 ∷ 82 ∷ 79 ∷ 77 ∷ 32 ∷ 96 ∷ 100 ∷ 96 ∷ 46 ∷ 96 ∷ 116 ∷ 96 ∷ 32 ∷ 96 ∷ 114 ∷ 96 ∷ 32 ∷ 115 ∷ []

-- two aliases: the last stands in the reference, and both are listed. Database and table have their quotes in the outer range, and lose them in the inner one
abbrev twice : List ℕ
twice =
    rec from_clause 0 0 18 ++ rec table_identifier 1 5 12 ++ rec quoted_identifier 2 5 8 ++ rec quoted_identifier 2 9 12
    ++ rec table_alias 1 13 16 ++ rec quoted_identifier 2 13 16 ++ rec table_alias 1 17 18 ++ rec bare_word 2 17 18

twice-refs : map reference_row (table_refs quoted twice 0) ≡ (1 ∷ (5 ∷ 8 ∷ 6 ∷ 7 ∷ []) ++ (9 ∷ 12 ∷ 10 ∷ 11 ∷ []) ++ bare 17 18) ∷ []
unfolding collection collected node_gives own_with own_columns own_tables bound_in entry table_reading hand_on list_alias aliased fresh first_named last_named binding name_of unquoted is_name is_as says text upper bytes_of is_part direct kids level from run record_at word stretch_end extent
twice-refs = refl

twice-aliases : map binding_row (table_aliases quoted twice 0) ≡ (13 ∷ 16 ∷ 14 ∷ 15 ∷ 13 ∷ 16 ∷ []) ∷ (17 ∷ 18 ∷ 17 ∷ 18 ∷ 17 ∷ 18 ∷ []) ∷ []
unfolding collection collected node_gives own_with own_columns own_tables bound_in entry table_reading hand_on list_alias aliased fresh first_named last_named binding name_of unquoted is_name is_as says text upper bytes_of is_part direct kids level from run record_at word stretch_end extent
twice-aliases = refl

-- below a table expression none is pending, so its first alias gives no entry; its reference comes before the waiting outer one, which still gets its alias
abbrev waiting : List ℕ
waiting =
    rec from_clause 0 0 12 ++ rec table_identifier 1 5 6 ++ rec bare_word 2 5 6 ++ rec table_expression 1 7 9 ++ rec table_alias 2 8 9 ++ rec bare_word 3 8 9
    ++ rec table_identifier 2 7 8 ++ rec bare_word 3 7 8 ++ rec table_alias 1 10 11 ++ rec bare_word 2 10 11

waiting-refs : map reference_row (table_refs [] waiting 0) ≡ (6 ∷ no_name ++ bare 7 8 ++ no_name) ∷ (1 ∷ no_name ++ bare 5 6 ++ bare 10 11) ∷ []
unfolding collection collected node_gives own_with own_columns own_tables bound_in entry table_reading hand_on list_alias aliased fresh first_named last_named binding name_of unquoted is_name is_as says text upper bytes_of is_part direct kids level from run record_at word stretch_end extent
waiting-refs = refl

waiting-aliases : map binding_row (table_aliases [] waiting 0) ≡ (10 ∷ 11 ∷ 10 ∷ 11 ∷ 10 ∷ 11 ∷ []) ∷ []
unfolding collection collected node_gives own_with own_columns own_tables bound_in entry table_reading hand_on list_alias aliased fresh first_named last_named binding name_of unquoted is_name is_as says text upper bytes_of is_part direct kids level from run record_at word stretch_end extent
waiting-aliases = refl
