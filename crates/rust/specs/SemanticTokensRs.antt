-- semantic_tokens.rs, statement by statement, up to the encoding: the second reading of document 01's token classes.
-- Definitions only; the theorem is `semantic-tokens-rs` in proofs/SemanticTokensRs.antt.
use Rattle.std.specs.Prelude.{ℕ, ◌≡◌, Bool, false, cond, not, ◌&&◌, List, [], ◌∷◌, map, ltb, leb, eqb, length, Option, Some, None}
use Rattle.records.specs.declared.record.Rec.{Rec}
use Rattle.records.specs.Kinds.{table_identifier, table_expression, table_alias, column_alias, data_type, data_type_parameters, nested_data_type, function_call, aggregate_function, table_function, identifier, column_reference, qualified_name, query_parameter_expression, database_definition, table_definition, view_definition, materialized_view_definition, dictionary_definition, expression, comment, bare_word, quoted_identifier, number, string_token, here_doc, plus, arrow}
use Rattle.records.specs.Table.{kind_at, records}
use Rattle.forest.specs.Forest.{Forest, nil, token, node, kids}
use Rattle.text.specs.Text.{bytes_of, upper_word, text}
use Rattle.class_list.specs.declared.class_list.ClassedToken.{ClassedToken}
use Rattle.keywords.specs.Keywords.{keywords, elem}
use Rattle.class_list.specs.Classes.{classes_of}
use Rattle.path.specs.Path.{one_of}
use Rattle.rust.specs.Rust.{Call, gives, ◌>>=◌, slice, push}

-- ---- the constants, and document 01's numbers

abbrev pub TT_KEYWORD : ℕ
TT_KEYWORD = 0

abbrev pub TT_FUNCTION : ℕ
TT_FUNCTION = 1

abbrev pub TT_STRING : ℕ
TT_STRING = 2

abbrev pub TT_NUMBER : ℕ
TT_NUMBER = 3

abbrev pub TT_COMMENT : ℕ
TT_COMMENT = 4

abbrev pub TT_OPERATOR : ℕ
TT_OPERATOR = 5

abbrev pub TT_VARIABLE : ℕ
TT_VARIABLE = 6

abbrev pub TT_TYPE : ℕ
TT_TYPE = 7

abbrev pub TT_PARAMETER : ℕ
TT_PARAMETER = 8

abbrev pub TT_PROPERTY : ℕ
TT_PROPERTY = 9

-- ---- the functions

-- fn is_keyword(text): `text.len() < 2` first; then `KEYWORDS.contains`, with the words of `KEYWORDS` in its order
unfoldable pub is_keyword : List ℕ → Bool
is_keyword word = cond (ltb (length word) 2) false (elem (upper_word word) (map bytes_of keywords))

-- the tables and databases of `classify_bareword`
abbrev pub tables : List ℕ
tables =
    table_identifier
    ∷ table_expression
    ∷ database_definition
    ∷ table_definition
    ∷ view_definition
    ∷ materialized_view_definition
    ∷ dictionary_definition
    ∷ table_alias
    ∷ []

-- fn classify_bareword(text, parent): one `if .. return` after the other
unfoldable pub classify_bareword : List ℕ → ℕ → Option ℕ
classify_bareword word parent =
    cond (one_of (data_type ∷ data_type_parameters ∷ nested_data_type ∷ []) parent) (Some TT_TYPE)
    (cond (one_of (function_call ∷ aggregate_function ∷ table_function ∷ []) parent && not (is_keyword word)) (Some TT_FUNCTION)
    (cond (one_of tables parent && not (is_keyword word)) (Some TT_PROPERTY)
    (cond (eqb parent column_alias && not (is_keyword word)) (Some TT_VARIABLE)
    (cond (one_of (column_reference ∷ qualified_name ∷ identifier ∷ []) parent && not (is_keyword word)) (Some TT_VARIABLE)
    (cond (eqb parent query_parameter_expression) (Some TT_PARAMETER)
    (cond (is_keyword word) (Some TT_KEYWORD)
    (cond (eqb parent expression) (Some TT_VARIABLE)
    None)))))))

-- fn classify_identifier_by_parent(parent)
unfoldable pub classify_identifier_by_parent : ℕ → Option ℕ
classify_identifier_by_parent parent =
    cond (one_of (function_call ∷ aggregate_function ∷ table_function ∷ []) parent) (Some TT_FUNCTION)
    (cond (one_of (data_type ∷ data_type_parameters ∷ nested_data_type ∷ []) parent) (Some TT_TYPE)
    (cond (one_of (table_identifier ∷ table_expression ∷ table_alias ∷ database_definition ∷ table_definition ∷ []) parent) (Some TT_PROPERTY)
    (cond (one_of (column_reference ∷ qualified_name ∷ column_alias ∷ identifier ∷ []) parent) (Some TT_VARIABLE)
    (Some TT_VARIABLE))))

-- the fifteen operators of `classify_token`, Plus to Arrow
abbrev pub operators : List ℕ
operators =
    plus ∷ 144 ∷ 145 ∷ 146 ∷ 147 ∷ 148 ∷ 149 ∷ 150 ∷ 151 ∷ 152 ∷ 153 ∷ 154 ∷ 155 ∷ 156 ∷ arrow ∷ []

-- its arm of a BareWord, which reads the text
unfoldable pub word_arm : ℕ → ℕ → List ℕ → ℕ → Call (Option ℕ)
word_arm start end source parent = do
  s ← slice source start end
  gives (classify_bareword (text source s.start s.end) parent)

-- fn classify_token(kind, start, end, source, parent)
unfoldable pub classify_token : ℕ → ℕ → ℕ → List ℕ → ℕ → Call (Option ℕ)
classify_token kind start end source parent =
    cond (eqb kind comment) (gives (Some TT_COMMENT))
    (cond (eqb kind number) (gives (Some TT_NUMBER))
    (cond (one_of (string_token ∷ here_doc ∷ []) kind) (gives (Some TT_STRING))
    (cond (one_of operators kind) (gives (Some TT_OPERATOR))
    (cond (eqb kind quoted_identifier) (gives (classify_identifier_by_parent parent))
    (cond (eqb kind bare_word) (word_arm start end source parent)
    (gives None))))))

-- `if let Some(tt) = ..`, then `out.push((token.start, token.end, tt))`
unfoldable pub push_class : List ClassedToken → Rec → Option ℕ → List ClassedToken
push_class out t None = out
push_class out t (Some tt) = push out (record { start = t.start; end = t.end; class = tt })

-- fn collect_tokens(tree, source, out), of a tree of this kind
unfoldable pub collect_tokens : ℕ → Forest → List ℕ → List ClassedToken → Call (List ClassedToken)
collect_tokens kind nil source out = gives out
collect_tokens kind (token t rest) source out = do
  class ← classify_token t.kind t.start t.end source kind
  collect_tokens kind rest source (push_class out t class)
collect_tokens kind (node tree children rest) source out = do
  more ← collect_tokens tree.kind children source out
  collect_tokens kind rest source more

-- slice::sort_by_key by the start, which is stable: an entry goes before the first of those behind it that does not start earlier
unfoldable pub insert : ClassedToken → List ClassedToken → List ClassedToken
insert x [] = x ∷ []
insert x (y ∷ ys) =
    let on : List ClassedToken = y ∷ insert x ys in
    cond (leb x.start y.start) (x ∷ y ∷ ys) on

unfoldable pub sort_by_start : List ClassedToken → List ClassedToken
sort_by_start [] = []
sort_by_start (x ∷ xs) = insert x (sort_by_start xs)

-- fn compute(tree, source, ..), its raw_tokens after the sort
unfoldable pub compute : ℕ → Forest → List ℕ → Call (List ClassedToken)
compute kind children source = do
  out ← collect_tokens kind children source []
  gives (sort_by_start out)

-- ---- the second reading says the same

-- the classes of a table's tree, before the sort and after it: the tokens are in order
pub record SemanticTokensRs (source t : List ℕ) : Type 0 where
  pub collected : collect_tokens (kind_at t 0) (kids (records 0 t)) source [] ≡ gives (classes_of source t)
  pub sorted : compute (kind_at t 0) (kids (records 0 t)) source ≡ gives (classes_of source t)
