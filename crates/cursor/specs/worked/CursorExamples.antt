-- Worked cases of the context, computed: document 01's cases marked P that speak of it, a row for each rule, and some readings
-- that could be taken otherwise.
use Rattle.std.specs.Prelude.{ℕ, ◌≡◌, refl, List, [], ◌∷◌, ◌++◌}
use Rattle.records.specs.Kinds.{other_node, file, query_list, error, select_statement, insert_statement, select_clause, from_clause, join_clause, where_clause, order_by_clause, settings_clause, setting_list, engine_clause, format_clause, insert_format_clause, join_constraint, table_identifier, table_alias, column_definition, column_type_definition, column_codec, function_call, aggregate_function, identifier, column_reference, other_token, whitespace, bare_word, comma, opening_round, closing_round}
use Rattle.lent.specs.Numbers.{word}
use Rattle.records.specs.Table.{record_at, run, from}
use Rattle.forest.specs.Forest.{level, kids}
use Rattle.forest.specs.Tokens.{only, tokens_of}
use Rattle.forest.specs.Descent.{path, path_of, along}
use Rattle.text.specs.Text.{text, bytes_of, upper, says}
use Rattle.table.specs.worked.Worked.{rec}
use Rattle.path.specs.Path.{deepest_or, on_path, next_of, is_deepest, deepest_over}
use Rattle.tokens.specs.LastToken.{last_or, init, last_two, is_text, is_word, dotted, is_join_word}
use Rattle.tokens.specs.Function.{bare_word_in, or_name, function_name, argued, arguments}
use Rattle.contexts.specs.Trailing.{last_clause, past_clause, past_end, trailing_in}
use Rattle.contexts.specs.PathRules.{table_reference, joined, function_argument, column_or, column, path_rules, ruled, else_ask, by_path}
use Rattle.contexts.specs.declared.context.Coded.{Coded}
use Rattle.cursor.specs.CursorContext.{starts_after, last_rule, given_or, context_at}
use Rattle.contexts.specs.Context.{range_of, reference_number, coded}

-- ---- a case: a source, a table, an offset; the context's number, the name's range, the argument's index

record Case : Type 0 where
  source : List ℕ
  table : List ℕ
  offset : ℕ
  says : Coded

abbrev on : List ℕ → List ℕ → ℕ → Coded → Case
on s t o c = record { source = s; table = t; offset = o; says = c }

abbrev plain : ℕ → Coded
plain n = record { number = n; name = record { start = 4294967295; end = 4294967295 }; index = 0 }

abbrev with : ℕ → ℕ → ℕ → ℕ → Coded
with n s e i = record { number = n; name = record { start = s; end = e }; index = i }

-- ---- document 01's worked tree

abbrev worked_source : List ℕ
worked_source = bytes_of "SELECT r. FROM raw r"

abbrev worked : List ℕ
worked =
    rec file 0 0 20
    ++ rec select_statement 1 0 20
    ++ rec select_clause 2 0 9
    ++ rec bare_word 3 0 6
    ++ rec whitespace 3 6 7
    ++ rec column_reference 3 7 9
    ++ rec bare_word 4 7 8
    ++ rec other_token 4 8 9
    ++ rec whitespace 2 9 10
    ++ rec from_clause 2 10 20
    ++ rec bare_word 3 10 14
    ++ rec whitespace 3 14 15
    ++ rec table_identifier 3 15 18
    ++ rec bare_word 4 15 18
    ++ rec whitespace 3 18 19
    ++ rec table_alias 3 19 20
    ++ rec bare_word 4 19 20

-- ---- a row for each rule

-- a node of kind k over the whole source, with a token a and a token b below it
abbrev over : ℕ → List ℕ
over k = rec file 0 0 9 ++ rec k 1 0 9 ++ rec bare_word 2 0 2 ++ rec other_token 2 2 3

-- the same, with a node of kind j next below
abbrev next : ℕ → ℕ → List ℕ
next k j = rec file 0 0 9 ++ rec k 1 0 9 ++ rec j 2 0 9

-- a statement whose last clause ends before the offset
abbrev ends : ℕ → List ℕ
ends k = rec file 0 0 9 ++ rec select_statement 1 0 9 ++ rec k 2 0 3

-- f(a, g(x, y), (b, c
abbrev call : List ℕ
call =
    rec file 0 0 20
    ++ rec function_call 1 0 20
    ++ rec identifier 2 0 1
    ++ rec bare_word 3 0 1
    ++ rec opening_round 2 1 2
    ++ rec bare_word 2 2 3
    ++ rec comma 2 3 4
    ++ rec aggregate_function 2 5 12
    ++ rec opening_round 3 6 7
    ++ rec comma 3 8 9
    ++ rec closing_round 3 11 12
    ++ rec comma 2 12 13
    ++ rec opening_round 2 14 15
    ++ rec comma 2 16 17
    ++ rec closing_round 2 18 19
    ++ rec comma 2 19 20

cases : List Case
cases =
    on worked_source worked 9 (with 3 7 8 0) ∷
    on worked_source worked 10 (plain 1) ∷
    -- a lone File, empty
    on [] (rec file 0 4294967295 0) 0 (plain 11) ∷
    -- 1: past the end of the last clause
    on [] (ends where_clause) 4 (plain 4) ∷
    on [] (ends order_by_clause) 4 (plain 4) ∷
    on [] (ends from_clause) 4 (plain 1) ∷
    on [] (ends select_clause) 4 (plain 0) ∷
    on [] (ends settings_clause) 4 (plain 5) ∷
    on [] (ends format_clause) 4 (plain 7) ∷
    on [] (ends engine_clause) 4 (plain 11) ∷
    -- an empty clause counts there, and an empty Error hides the clause before it
    on [] (rec file 0 0 4294967295 ++ rec select_statement 1 0 4294967295 ++ rec where_clause 2 0 3 ++ rec from_clause 2 4294967295 0) 4294967295 (plain 1) ∷
    on [] (rec file 0 0 4294967295 ++ rec select_statement 1 0 4294967295 ++ rec where_clause 2 0 3 ++ rec error 2 4294967295 0) 4294967295 (plain 11) ∷
    -- 2: FROM, with a prefix and without
    on (bytes_of "db.table.") (over from_clause) 3 (with 2 0 2 0) ∷
    on (bytes_of "db,table.") (over from_clause) 3 (plain 1) ∷
    -- 3: JOIN, ON in any case whatever its kind, USING, kind 28 above the JOIN
    on (bytes_of "db.table.") (over join_clause) 3 (with 2 0 2 0) ∷
    on (bytes_of "oN.table.") (over join_clause) 1 (plain 4) ∷
    on (bytes_of "using,ab.") (rec join_clause 0 0 9 ++ rec other_token 1 0 5) 5 (plain 4) ∷
    on (bytes_of "ab.table.") (rec file 0 0 9 ++ rec join_constraint 1 0 9 ++ rec join_clause 2 0 9) 3 (plain 4) ∷
    -- 4: INSERT, deepest or over a table's name
    on (bytes_of "db.table.") (rec file 0 0 9 ++ rec insert_statement 1 0 9) 3 (plain 1) ∷
    on (bytes_of "db.table.") (next insert_statement table_identifier) 3 (plain 1) ∷
    on (bytes_of "db.table.") (next insert_statement identifier) 3 (plain 11) ∷
    -- 5, 6, 7, 8, 9, 10
    on [] (over setting_list) 3 (plain 5) ∷
    on [] (over engine_clause) 3 (plain 6) ∷
    on [] (over insert_format_clause) 3 (plain 7) ∷
    on [] (over column_type_definition) 3 (plain 8) ∷
    on [] (over column_definition) 3 (plain 8) ∷
    on [] (next column_definition error) 3 (plain 8) ∷
    on [] (next column_definition identifier) 3 (plain 11) ∷
    on [] (over column_codec) 3 (plain 9) ∷
    -- 11: the name; commas of an inner call do not count; an inner `(` sets the index to 0, and `)` closes nothing
    on (bytes_of "f(a, g(x, y), (b, c)") call 3 (with 10 0 1 0) ∷
    on (bytes_of "f(a, g(x, y), (b, c)") call 4 (with 10 0 1 1) ∷
    on (bytes_of "f(a, g(x, y), (b, c)") call 13 (with 10 0 1 2) ∷
    on (bytes_of "f(a, g(x, y), (b, c)") call 15 (with 10 0 1 0) ∷
    on (bytes_of "f(a, g(x, y), (b, c)") call 20 (with 10 0 1 2) ∷
    on [] (rec function_call 0 0 9 ++ rec opening_round 1 0 1 ++ rec bare_word 1 1 2) 2 (plain 10) ∷
    -- 12
    on (bytes_of "db.table.") (over select_clause) 3 (with 3 0 2 0) ∷
    on (bytes_of "db,table.") (over select_clause) 3 (plain 0) ∷
    on (bytes_of "db,table.") (over where_clause) 3 (plain 4) ∷
    -- 13, and 14 after `;` and not
    on [] (rec file 0 0 9 ++ rec query_list 1 0 9) 3 (plain 11) ∷
    on (bytes_of "a;") (rec file 0 0 2 ++ rec other_node 1 0 2 ++ rec bare_word 2 0 1 ++ rec other_token 2 1 2) 1 (plain 11) ∷
    on (bytes_of "a;") (rec file 0 0 2 ++ rec other_node 1 0 2 ++ rec bare_word 2 0 1 ++ rec other_token 2 1 2) 0 (plain 12) ∷
    on (bytes_of "a;") (rec other_node 0 0 2) 0 (plain 12) ∷
    -- the first child that holds the offset is taken, both ends inclusive; an empty one is passed over
    on [] (rec file 0 0 9 ++ rec engine_clause 1 0 3 ++ rec column_codec 1 3 9) 3 (plain 6) ∷
    on [] (rec file 0 0 9 ++ rec engine_clause 1 4 3 ++ rec column_codec 1 3 9) 3 (plain 9) ∷
    []

tells : List Case → List Coded
tells [] = []
tells (c ∷ cs) = coded (context_at c.source c.table c.offset) ∷ tells cs

expects : List Case → List Coded
expects [] = []
expects (c ∷ cs) = c.says ∷ expects cs

the-contexts : tells cases ≡ expects cases
unfolding cases tells expects word record_at run from level kids only tokens_of path path_of along text bytes_of upper says deepest_or on_path last_or init last_two is_text is_word dotted is_join_word bare_word_in or_name function_name argued arguments last_clause past_clause past_end trailing_in next_of is_deepest deepest_over table_reference joined function_argument column_or column path_rules ruled else_ask by_path starts_after last_rule given_or context_at range_of reference_number coded
the-contexts = refl
