-- cursor_context.rs, statement by statement: the second reading of document 01's cursor.
-- Definitions only; the theorem is `cursor-context-rs` in proofs/CursorContextRs.antt.
use Rattle.std.specs.Prelude.{ℕ, ◌+◌, ◌≡◌, Bool, true, false, cond, ◌&&◌, ◌||◌, List, [], ◌∷◌, map, reverse, leb, ltb, eqb, Option, None, Some}
use Rattle.records.specs.declared.record.Rec.{Rec}
use Rattle.records.specs.Kinds.{file, query_list, error, select_statement, insert_statement, create_statement, alter_statement, delete_statement, update_statement, select_clause, from_clause, join_clause, prewhere_clause, where_clause, group_by_clause, having_clause, order_by_clause, settings_clause, setting_list, engine_clause, format_clause, insert_format_clause, join_constraint, table_identifier, column_definition, column_type_definition, column_codec, data_type, data_type_parameters, function_call, aggregate_function, identifier, whitespace, comment, bare_word, comma, opening_round}
use Rattle.records.specs.Table.{record_at, records}
use Rattle.forest.specs.Forest.{Forest, nil, token, node, kids, inside}
use Rattle.text.specs.Text.{text, bytes_of, same, says}
use Rattle.records.specs.declared.range.Range.{Range}
use Rattle.contexts.specs.declared.context.CursorContext.{CursorContext}
use Rattle.contexts.specs.declared.context.CursorContext.TheVariants.{SelectExpression, TableReference, ColumnOfTable, Expression, SettingName, EngineName, FormatName, DataType, CodecName, FunctionArgument, StatementStart, Unknown}
use Rattle.path.specs.Path.{path_at, one_of}
use Rattle.tokens.specs.LastToken.{last_two, dotted}
use Rattle.tokens.specs.Function.{function_name, argument_index}
use Rattle.cursor.specs.CursorContext.{context_at}
use Rattle.rust.specs.Rust.{Call, gives, ◌>>=◌, text_of, push, find}

-- enum CursorContext is the library's own, with a range for a `String`. The name of a function is a `String` there: where it is empty, it stands nowhere
unfoldable pub string : Range → Option Range
string s = cond (ltb s.start s.end) (Some s) None

-- `return` what is there, else go on
unfoldable pub return_or : Option CursorContext → Call CursorContext → Call CursorContext
return_or None on = on
return_or (Some c) on = gives c

-- ---- the path

-- struct PathNode
pub record PathNode : Type 0 where
  pub tree : Rec
  pub children : Forest

-- the loop of `find_node_path`, at the children of `current`: the inner `for` leaves at the first child that holds the offset, which is
-- pushed and becomes `current`; where none is found the loop ends
unfoldable pub descend : Forest → ℕ → List PathNode → List PathNode
descend nil offset path = path
descend (token t rest) offset path = descend rest offset path
descend (node subtree children rest) offset path =
    let on : List PathNode = descend rest offset path in
    let down : List PathNode = descend children offset (push path (record { tree = subtree; children = children })) in
    cond (ltb subtree.end subtree.start) on (cond (leb subtree.start offset && leb offset subtree.end) down on)

-- fn find_node_path(tree, offset)
unfoldable pub find_node_path : Rec → Forest → ℕ → List PathNode
find_node_path tree children offset = descend children offset (record { tree = tree; children = children } ∷ [])

-- ---- the token before the offset

-- `(&str, SyntaxKind)`
pub record Before : Type 0 where
  pub text : Range
  pub parent : ℕ

-- Whitespace or Comment
abbrev pub skipped : ℕ → Bool
skipped kind = eqb kind whitespace || eqb kind comment

-- fn token_before_impl(tree, source, offset, parent_kind, best)
unfoldable pub token_before_impl : Forest → List ℕ → ℕ → ℕ → Option Before → Call (Option Before)
token_before_impl nil source offset parent_kind best = gives best
token_before_impl (token t rest) source offset parent_kind best =
    let on : Call (Option Before) = token_before_impl rest source offset parent_kind best in
    let better : Call (Option Before) = do
      s ← text_of source t
      token_before_impl rest source offset parent_kind (Some (record { text = s; parent = parent_kind }))
    in
    cond (skipped t.kind) on (cond (leb t.start offset) better on)
token_before_impl (node subtree children rest) source offset parent_kind best =
    let on : Call (Option Before) = token_before_impl rest source offset parent_kind best in
    let inside : Call (Option Before) = do
      b ← token_before_impl children source offset subtree.kind best
      token_before_impl rest source offset parent_kind b
    in
    cond (ltb subtree.end subtree.start) on (cond (leb subtree.start offset) inside on)

-- fn token_before_offset(tree, source, offset)
unfoldable pub token_before_offset : Rec → Forest → List ℕ → ℕ → Call (Option Before)
token_before_offset tree children source offset = token_before_impl children source offset tree.kind None

-- `if let Some((prev_text, _))`, and prev_text is the word
unfoldable pub text_is : List ℕ → List ℕ → Option Before → Bool
text_is word source None = false
text_is word source (Some b) = same (text source b.text.start b.text.end) word

-- the same by `eq_ignore_ascii_case`
unfoldable pub says_word : List ℕ → List ℕ → Option Before → Bool
says_word word source None = false
says_word word source (Some b) = says word (text source b.text.start b.text.end)

-- ---- the trailing clause

-- the statements of `check_trailing_clause`
abbrev pub is_statement_like : PathNode → Bool
is_statement_like n =
    one_of
    (select_statement ∷ insert_statement ∷ create_statement ∷ alter_statement ∷ delete_statement ∷ update_statement ∷ [])
    n.tree.kind

-- its loop, with `last_clause` carried along
unfoldable pub clause_before : Forest → ℕ → Option Rec → Option Rec
clause_before nil offset last_clause = last_clause
clause_before (token t rest) offset last_clause = clause_before rest offset last_clause
clause_before (node subtree children rest) offset last_clause =
    clause_before rest offset (cond (leb subtree.start offset) (Some subtree) last_clause)

-- its `match clause.kind`
unfoldable pub trailing : ℕ → Option CursorContext
trailing kind =
    cond (one_of (having_clause ∷ where_clause ∷ prewhere_clause ∷ []) kind) (Some Expression)
    (cond (eqb kind from_clause) (Some (TableReference None))
    (cond (eqb kind select_clause) (Some SelectExpression)
    (cond (one_of (group_by_clause ∷ order_by_clause ∷ []) kind) (Some Expression)
    (cond (eqb kind settings_clause) (Some SettingName)
    (cond (eqb kind format_clause) (Some FormatName)
    None)))))

-- `last_clause?`, then `if offset <= clause.end`
unfoldable pub clause_gives : ℕ → Option Rec → Option CursorContext
clause_gives offset None = None
clause_gives offset (Some clause) = cond (leb offset clause.end) None (trailing clause.kind)

-- the `?` of the statement
unfoldable pub trailing_of : ℕ → Option PathNode → Option CursorContext
trailing_of offset None = None
trailing_of offset (Some stmt) = clause_gives offset (clause_before stmt.children offset None)

-- fn check_trailing_clause(path, offset)
unfoldable pub check_trailing_clause : List PathNode → ℕ → Option CursorContext
check_trailing_clause path offset = trailing_of offset (find is_statement_like (reverse path))

-- ---- the identifier before a dot

-- prev_prev and prev
pub record Prev : Type 0 where
  pub prev_prev : Option Range
  pub prev : Option Range

-- fn find_ident_before_dot_impl(tree, source, offset, prev_prev, prev): returns at a token that starts after the offset
unfoldable pub find_ident_before_dot_impl : Forest → List ℕ → ℕ → Prev → Call Prev
find_ident_before_dot_impl nil source offset p = gives p
find_ident_before_dot_impl (token t rest) source offset p =
    let on : Call Prev = find_ident_before_dot_impl rest source offset p in
    let next : Call Prev = do
      s ← text_of source t
      find_ident_before_dot_impl rest source offset (record { prev_prev = p.prev; prev = Some s })
    in
    cond (skipped t.kind) on (cond (ltb offset t.start) (gives p) next)
find_ident_before_dot_impl (node subtree children rest) source offset p =
    let on : Call Prev = find_ident_before_dot_impl rest source offset p in
    let inside : Call Prev = do
      q ← find_ident_before_dot_impl children source offset p
      find_ident_before_dot_impl rest source offset q
    in
    cond (ltb subtree.end subtree.start) on (cond (leb subtree.start offset) inside on)

-- `if prev == Some(".")` then prev_prev
unfoldable pub before_dot : List ℕ → Option Range → Option Range → Option Range
before_dot source prev_prev None = None
before_dot source prev_prev (Some r) = cond (same (text source r.start r.end) (bytes_of ".")) prev_prev None

-- fn find_identifier_before_dot(tree, source, offset)
unfoldable pub find_identifier_before_dot : Forest → List ℕ → ℕ → Call (Option Range)
find_identifier_before_dot children source offset = do
  p ← find_ident_before_dot_impl children source offset (record { prev_prev = None; prev = None })
  gives (before_dot source p.prev_prev p.prev)

-- fn table_ref_or_dot(tree, source, offset)
unfoldable pub table_ref_or_dot : PathNode → List ℕ → ℕ → Call CursorContext
table_ref_or_dot n source offset =
    let prefixed : Call CursorContext = do
      db ← find_identifier_before_dot n.children source offset
      gives (TableReference db)
    in
    do
      b ← token_before_offset n.tree n.children source offset
      cond (text_is (bytes_of ".") source b) prefixed (gives (TableReference None))

-- `if let Some(qualifier)`
unfoldable pub column_of : Option Range → Option CursorContext
column_of None = None
column_of (Some r) = Some (ColumnOfTable r)

-- fn check_dot_access(tree, source, offset)
unfoldable pub check_dot_access : PathNode → List ℕ → ℕ → Call (Option CursorContext)
check_dot_access n source offset =
    let qualified : Call (Option CursorContext) = do
      qualifier ← find_identifier_before_dot n.children source offset
      gives (column_of qualifier)
    in
    do
      b ← token_before_offset n.tree n.children source offset
      cond (text_is (bytes_of ".") source b) qualified (gives None)

-- ---- a function's argument

-- `return token.text(source).to_string()`
unfoldable pub return_text : List ℕ → Rec → Call (Option Range)
return_text source t = do
  s ← text_of source t
  gives (string s)

-- the inner `for sub_child`, and where it returns nothing, on
unfoldable pub first_bare_word : Forest → List ℕ → Call (Option Range) → Call (Option Range)
first_bare_word nil source on = on
first_bare_word (token t rest) source on =
    let more : Call (Option Range) = first_bare_word rest source on in
    cond (eqb t.kind bare_word) (return_text source t) more
first_bare_word (node subtree children rest) source on = first_bare_word rest source on

-- fn extract_function_name(tree, source): breaks behind a `(`
unfoldable pub extract_function_name : Forest → List ℕ → Call (Option Range)
extract_function_name nil source = gives None
extract_function_name (token t rest) source =
    let on : Call (Option Range) = extract_function_name rest source in
    let next : Call (Option Range) = cond (eqb t.kind opening_round) (gives None) on in
    cond (eqb t.kind bare_word) (return_text source t) next
extract_function_name (node subtree children rest) source =
    let on : Call (Option Range) = extract_function_name rest source in
    let inside : Call (Option Range) = first_bare_word children source on in
    cond (eqb subtree.kind identifier) inside on

-- count and inside_parens
pub record Commas : Type 0 where
  pub count : ℕ
  pub inside_parens : Bool

-- fn count_commas_impl(tree, offset, count, inside_parens): returns at a token that starts at the offset or after it
unfoldable pub count_commas_impl : Forest → ℕ → Commas → Commas
count_commas_impl nil offset c = c
count_commas_impl (token t rest) offset c =
    let counted : Commas =
    cond (eqb t.kind opening_round) (record { count = 0; inside_parens = true })
    (cond (eqb t.kind comma && c.inside_parens) (record { count = c.count + 1; inside_parens = c.inside_parens }) c) in
    let next : Commas = count_commas_impl rest offset counted in
    cond (leb offset t.start) c next
count_commas_impl (node subtree children rest) offset c =
    let on : Commas = count_commas_impl rest offset c in
    let next : Commas = count_commas_impl rest offset (count_commas_impl children offset c) in
    cond (ltb subtree.end subtree.start) on
    (cond (eqb subtree.kind function_call || eqb subtree.kind aggregate_function) on next)

-- fn count_commas_before(tree, offset)
unfoldable pub count_commas_before : Forest → ℕ → ℕ
count_commas_before children offset = (count_commas_impl children offset (record { count = 0; inside_parens = false })).count

-- ---- the rules of the path

-- `i == path.len() - 1`, and the same `|| path[i + 1].kind == kind`, where next is the kind of `path[i + 1]` if there is one
unfoldable pub is_last : Option ℕ → Bool
is_last None = true
is_last (Some k) = false

unfoldable pub is_last_or : ℕ → Option ℕ → Bool
is_last_or kind None = true
is_last_or kind (Some k) = eqb k kind

-- a JoinConstraint is met in `for pn in path.iter().rev()`
unfoldable pub met : Option PathNode → Bool
met None = false
met (Some n) = true

-- the arm of a JOIN
unfoldable pub join_arm : PathNode → List PathNode → List ℕ → ℕ → Call CursorContext
join_arm n path source offset =
    let on : Call CursorContext = table_ref_or_dot n source offset in
    let constrained : Call CursorContext =
    cond (met (find (λ (pn : PathNode). eqb pn.tree.kind join_constraint) (reverse path))) (gives Expression) on in
    do
      prev ← token_before_offset n.tree n.children source offset
      cond (says_word (bytes_of "ON") source prev || says_word (bytes_of "USING") source prev) (gives Expression) constrained

-- the arm of a function call
unfoldable pub call_arm : PathNode → List ℕ → ℕ → Call CursorContext
call_arm n source offset = do
  name ← extract_function_name n.children source
  gives (FunctionArgument name (count_commas_before n.children offset))

-- the arm of a clause of expressions: `if let Some(ctx) = check_dot_access(..)`, else the other
unfoldable pub expression_arm : PathNode → List ℕ → ℕ → CursorContext → Call CursorContext
expression_arm n source offset other = do
  ctx ← check_dot_access n source offset
  return_or ctx (gives other)

-- `return` of a call
unfoldable pub returned : Call CursorContext → Call (Option CursorContext)
returned call = do
  c ← call
  gives (Some c)

-- the `match node.kind` of `analyze_path`: what it returns, if it returns
unfoldable pub arm : PathNode → Option ℕ → List PathNode → List ℕ → ℕ → Call (Option CursorContext)
arm n next path source offset =
    let kind : ℕ = n.tree.kind in
    cond (eqb kind from_clause) (returned (table_ref_or_dot n source offset))
    (cond (eqb kind join_clause) (returned (join_arm n path source offset))
    (cond (eqb kind insert_statement) (cond (is_last_or table_identifier next) (returned (table_ref_or_dot n source offset)) (gives None))
    (cond (one_of (settings_clause ∷ setting_list ∷ []) kind) (returned (gives SettingName))
    (cond (eqb kind engine_clause) (returned (gives EngineName))
    (cond (one_of (format_clause ∷ insert_format_clause ∷ []) kind) (returned (gives FormatName))
    (cond (one_of (data_type ∷ column_type_definition ∷ data_type_parameters ∷ []) kind) (returned (gives DataType))
    (cond (eqb kind column_definition) (cond (is_last_or error next) (returned (gives DataType)) (gives None))
    (cond (eqb kind column_codec) (returned (gives CodecName))
    (cond (one_of (function_call ∷ aggregate_function ∷ []) kind) (returned (call_arm n source offset))
    (cond (eqb kind select_clause) (returned (expression_arm n source offset SelectExpression))
    (cond (one_of (where_clause ∷ having_clause ∷ prewhere_clause ∷ group_by_clause ∷ order_by_clause ∷ []) kind) (returned (expression_arm n source offset Expression))
    (cond (one_of (file ∷ query_list ∷ []) kind) (cond (is_last next) (returned (gives StatementStart)) (gives None))
    (gives None)))))))))))))

-- the loop over `path.iter().enumerate().rev()`, and what stands behind it
unfoldable pub ancestors : List PathNode → List ℕ → ℕ → Call CursorContext → Option ℕ → List PathNode → Call CursorContext
ancestors path source offset behind next [] = behind
ancestors path source offset behind next (n ∷ above) =
    let on : Call CursorContext = ancestors path source offset behind (Some n.tree.kind) above in
    let asked : Call CursorContext = do
      c ← arm n next path source offset
      return_or c on
    in
    cond (eqb n.tree.kind error) on asked

-- `if let Some((prev_text, _))`, and prev_text is `;`; `else`
unfoldable pub starts_next : List ℕ → Option Before → Bool
starts_next source None = true
starts_next source (Some b) = text_is (bytes_of ";") source (Some b)

-- the fallback, by `path.first()`
unfoldable pub fallback : List PathNode → List ℕ → ℕ → Call CursorContext
fallback [] source offset = gives Unknown
fallback (root ∷ path) source offset =
    let in_file : Call CursorContext = do
      b ← token_before_offset root.tree root.children source offset
      gives (cond (starts_next source b) StatementStart Unknown)
    in
    cond (eqb root.tree.kind file) in_file (gives Unknown)

-- fn analyze_path(path, source, offset)
unfoldable pub analyze_path : List PathNode → List ℕ → ℕ → Call CursorContext
analyze_path [] source offset = gives Unknown
analyze_path (root ∷ more) source offset =
    let path : List PathNode = root ∷ more in
    return_or (check_trailing_clause path offset) (ancestors path source offset (fallback path source offset) None (reverse path))

-- fn cursor_context(tree, source, offset)
unfoldable pub cursor_context : Rec → Forest → List ℕ → ℕ → Call CursorContext
cursor_context tree children source offset = analyze_path (find_node_path tree children offset) source offset

-- ---- the second reading says the same

-- the text of the token found, as a name
unfoldable pub text_name : Option Before → Option Range
text_name None = None
text_name (Some b) = Some b.text

-- a name as the Rust's `String` tells it: one of no bytes is as none
unfoldable pub shortened : Option Range → Option Range
shortened None = None
shortened (Some r) = string r

-- a context as the Rust tells it
unfoldable pub as_told : CursorContext → CursorContext
as_told (FunctionArgument name index) = FunctionArgument (shortened name) index
as_told (TableReference prefix) = TableReference prefix
as_told (ColumnOfTable qualifier) = ColumnOfTable qualifier
as_told SelectExpression = SelectExpression
as_told Expression = Expression
as_told SettingName = SettingName
as_told EngineName = EngineName
as_told FormatName = FormatName
as_told DataType = DataType
as_told CodecName = CodecName
as_told StatementStart = StatementStart
as_told Unknown = Unknown

-- of record 0's tree and, of the functions that are handed a node of the path, of every record i: none stops
pub record CursorContextRs (source t : List ℕ) (o : ℕ) : Type 0 where
  pub path : map (λ (n : PathNode). n.tree) (find_node_path (record_at t 0 0) (kids (records 0 t)) o) ≡ path_at t o
  pub last-token : (i : ℕ) → (token_before_offset (record_at t 0 i) (inside t i) source o >>= (λ b. gives (text_name b))) ≡ gives (last_two o (inside t i)).last
  pub before-dot : (i : ℕ) → find_identifier_before_dot (inside t i) source o ≡ gives (dotted source (last_two o (inside t i)))
  pub function-name : (i : ℕ) → extract_function_name (inside t i) source ≡ gives (shortened (function_name (inside t i)))
  pub argument-index : (i : ℕ) → count_commas_before (inside t i) o ≡ argument_index o (inside t i)
  pub context : cursor_context (record_at t 0 0) (kids (records 0 t)) source o ≡ gives (as_told (context_at source t o))
