-- scope.rs, statement by statement: the second reading of document 01's scope and of its enclosing statement.
-- Definitions only; the theorem is `scope-rs` in proofs/ScopeRs.antt.
use Rattle.std.specs.Prelude.{ℕ, ◌+◌, ◌-◌, ◌<◌, ◌≡◌, Bool, true, false, cond, ◌&&◌, ◌||◌, List, [], ◌∷◌, ◌++◌, map, ◌↔◌, ltb, eqb, Some, None, Option}
use Rattle.records.specs.declared.record.Rec.{Rec}
use Rattle.records.specs.Kinds.{select_statement, insert_statement, create_statement, alter_statement, delete_statement, update_statement, drop_statement, show_statement, explain_statement, describe_statement, with_clause, select_clause, from_clause, join_clause, with_expression_item, subquery_expression, column_list, expression_list, table_identifier, table_expression, table_alias, column_alias, bare_word, quoted_identifier}
use Rattle.records.specs.Table.{count, record_at, records}
use Rattle.forest.specs.Forest.{Forest, nil, token, node, kids, inside}
use Rattle.text.specs.Text.{bytes_of, text, says}
use Rattle.records.specs.declared.range.Range.{Range}
use Rattle.names.specs.declared.names.NameBinding.{NameBinding}
use Rattle.references.specs.declared.pending.TableRef.{TableRef}
use Rattle.records.specs.Ranges.{absent, span}
use Rattle.names.specs.Names.{is_name, direct}
use Rattle.quotes.specs.Quotes.{byte_at, is_mark}
use Rattle.collection.specs.Collection.{collection}
use Rattle.lists.specs.Scope.{with_names, table_aliases, column_aliases, table_refs}
use Rattle.statement.specs.Statement.{enclosing_at}
use Rattle.path.specs.Path.{one_of}
use Rattle.roots.specs.Reach.{has_one_or_two}
use Rattle.rust.specs.Rust.{Call, stops, gives, ◌>>=◌, slice, text_of, push}

-- ---- the types

-- struct NameBinding
pub record Binding : Type 0 where
  pub name : Range
  pub range : Range
  pub definition_range : Range

-- struct TableRef, whose `range` is that of the node `tree`
pub record Reference : Type 0 where
  pub database : Option Range
  pub table : Range
  pub alias : Option Range
  pub tree : Rec

-- struct QueryScope
pub record QueryScope : Type 0 where
  pub ctes : List Binding
  pub table_aliases : List Binding
  pub column_aliases : List Binding
  pub table_refs : List Reference

-- its four pushes
unfoldable pub push_cte : QueryScope → Binding → QueryScope
push_cte s b =
    record { ctes = push s.ctes b; table_aliases = s.table_aliases; column_aliases = s.column_aliases; table_refs = s.table_refs }

unfoldable pub push_table_alias : QueryScope → Binding → QueryScope
push_table_alias s b =
    record { ctes = s.ctes; table_aliases = push s.table_aliases b; column_aliases = s.column_aliases; table_refs = s.table_refs }

unfoldable pub push_column_alias : QueryScope → Binding → QueryScope
push_column_alias s b =
    record { ctes = s.ctes; table_aliases = s.table_aliases; column_aliases = push s.column_aliases b; table_refs = s.table_refs }

unfoldable pub push_table_ref : QueryScope → Reference → QueryScope
push_table_ref s r =
    record { ctes = s.ctes; table_aliases = s.table_aliases; column_aliases = s.column_aliases; table_refs = push s.table_refs r }

-- ---- the WITH names

-- str::starts_with and str::ends_with, of a mark
abbrev pub starts_with : List ℕ → ℕ → Range → Bool
starts_with source mark s = ltb s.start s.end && eqb (byte_at source s.start) mark

abbrev pub ends_with : List ℕ → ℕ → Range → Bool
ends_with source mark s = ltb s.start s.end && eqb (byte_at source (s.end - 1)) mark

-- fn unquote(s): `&s[1..s.len() - 1]` stops where s has one byte
unfoldable pub unquote : List ℕ → Range → Call Range
unquote source s =
    cond ((starts_with source 96 s && ends_with source 96 s) || (starts_with source 34 s && ends_with source 34 s))
    (slice source (s.start + 1) (s.end - 1)) (gives s)

-- `text.eq_ignore_ascii_case("AS")`
abbrev pub says_as : List ℕ → Range → Bool
says_as source s = says (bytes_of "AS") (text source s.start s.end)

-- a NameBinding of the name in the token t, defined by tree
abbrev pub binding_of : Rec → Rec → Range → Binding
binding_of tree t name = record { name = name; range = span t; definition_range = span tree }

-- fn extract_cte(tree, source): returns at the first name
unfoldable pub extract_cte : Rec → Forest → List ℕ → Call (Option Binding)
extract_cte tree nil source = gives None
extract_cte tree (token t rest) source =
    let on : Call (Option Binding) = extract_cte tree rest source in
    let bare : Call (Option Binding) = do
      s ← text_of source t
      cond (says_as source s) on (gives (Some (binding_of tree t s)))
    in
    let quoted : Call (Option Binding) = do
      s ← text_of source t
      name ← unquote source s
      gives (Some (binding_of tree t name))
    in
    cond (eqb t.kind bare_word) bare (cond (eqb t.kind quoted_identifier) quoted on)
extract_cte tree (node subtree children rest) source = extract_cte tree rest source

-- `if let Some(binding) = extract_cte(..)`, then push
unfoldable pub push_if_cte : QueryScope → Option Binding → QueryScope
push_if_cte scope None = scope
push_if_cte scope (Some b) = push_cte scope b

-- fn collect_ctes(tree, source, scope)
unfoldable pub collect_ctes : Forest → List ℕ → QueryScope → Call QueryScope
collect_ctes nil source scope = gives scope
collect_ctes (token t rest) source scope = collect_ctes rest source scope
collect_ctes (node subtree children rest) source scope =
    let item : Call QueryScope = do
      b ← extract_cte subtree children source
      gives (push_if_cte scope b)
    in
    let list : Call QueryScope = collect_ctes children source scope in
    do
      s ← cond (eqb subtree.kind with_expression_item) item (cond (eqb subtree.kind column_list) list (gives scope))
      collect_ctes rest source s

-- ---- the tables and their aliases

-- what `extract_alias_name` returns: `(String, &Token)`
pub record Ident : Type 0 where
  pub name : Range
  pub token : Rec

-- fn extract_alias_name(tree, source): `last_ident` is carried along
unfoldable pub extract_alias_name : Forest → List ℕ → Option Ident → Call (Option Ident)
extract_alias_name nil source last_ident = gives last_ident
extract_alias_name (token t rest) source last_ident =
    let on : Call (Option Ident) = extract_alias_name rest source last_ident in
    let bare : Call (Option Ident) = do
      s ← text_of source t
      extract_alias_name rest source (cond (says_as source s) last_ident (Some (record { name = s; token = t })))
    in
    let quoted : Call (Option Ident) = do
      s ← text_of source t
      name ← unquote source s
      extract_alias_name rest source (Some (record { name = name; token = t }))
    in
    cond (eqb t.kind bare_word) bare (cond (eqb t.kind quoted_identifier) quoted on)
extract_alias_name (node subtree children rest) source last_ident = extract_alias_name rest source last_ident

-- the loop of `extract_table_identifier`, which gathers `parts`
unfoldable pub parts : Forest → List ℕ → List Range → Call (List Range)
parts nil source gathered = gives gathered
parts (token t rest) source gathered =
    let on : Call (List Range) = parts rest source gathered in
    let part : Call (List Range) = do
      s ← text_of source t
      parts rest source (push gathered s)
    in
    cond (eqb t.kind bare_word || eqb t.kind quoted_identifier) part on
parts (node subtree children rest) source gathered = parts rest source gathered

-- its `match parts.as_slice()`
unfoldable pub by_parts : Rec → List Range → Option Reference
by_parts tree [] = None
by_parts tree (table ∷ []) = Some (record { database = None; table = table; alias = None; tree = tree })
by_parts tree (database ∷ table ∷ []) = Some (record { database = Some database; table = table; alias = None; tree = tree })
by_parts tree (first ∷ second ∷ third ∷ more) = None

-- fn extract_table_identifier(tree, source)
unfoldable pub extract_table_identifier : Rec → Forest → List ℕ → Call (Option Reference)
extract_table_identifier tree children source = do
  gathered ← parts children source []
  gives (by_parts tree gathered)

-- the flush of `last_table_ref`
unfoldable pub flush : Option Reference → QueryScope → QueryScope
flush None scope = scope
flush (Some tref) scope = push_table_ref scope tref

-- `if let Some(ref mut tref) = last_table_ref`: only then is the alias's name extracted
unfoldable pub name_if_pending : Option Reference → Forest → List ℕ → Call (Option Ident)
name_if_pending None children source = gives None
name_if_pending (Some tref) children source = extract_alias_name children source None

-- and in it `if let Some((alias_name, alias_token))`: what becomes of the reference, and of the scope
unfoldable pub set_alias : Option Reference → Option Ident → Option Reference
set_alias None ident = None
set_alias (Some tref) None = Some tref
set_alias (Some tref) (Some i) = Some (record { database = tref.database; table = tref.table; alias = Some i.name; tree = tref.tree })

unfoldable pub push_alias : Option Reference → Option Ident → Rec → QueryScope → QueryScope
push_alias None ident subtree scope = scope
push_alias (Some tref) None subtree scope = scope
push_alias (Some tref) (Some i) subtree scope = push_table_alias scope (binding_of subtree i.token i.name)

-- fn collect_table_refs(tree, source, scope): `last_table_ref` is carried along, and flushed at the end
unfoldable pub collect_table_refs : Option Reference → Forest → List ℕ → QueryScope → Call QueryScope
collect_table_refs last_table_ref nil source scope = gives (flush last_table_ref scope)
collect_table_refs last_table_ref (token t rest) source scope = collect_table_refs last_table_ref rest source scope
collect_table_refs last_table_ref (node subtree children rest) source scope =
    let on_identifier : Call QueryScope = do
      tref ← extract_table_identifier subtree children source
      collect_table_refs tref rest source (flush last_table_ref scope)
    in
    let on_alias : Call QueryScope = do
      alias ← name_if_pending last_table_ref children source
      collect_table_refs (set_alias last_table_ref alias) rest source (push_alias last_table_ref alias subtree scope)
    in
    let on_expression : Call QueryScope = do
      s ← collect_table_refs None children source scope
      collect_table_refs last_table_ref rest source s
    in
    let on_join : Call QueryScope = do
      s ← collect_table_refs None children source (flush last_table_ref scope)
      collect_table_refs None rest source s
    in
    let on_other : Call QueryScope = collect_table_refs last_table_ref rest source scope in
    cond (eqb subtree.kind table_identifier) on_identifier
    (cond (eqb subtree.kind table_alias) on_alias
    (cond (eqb subtree.kind table_expression) on_expression
    (cond (eqb subtree.kind join_clause) on_join
    on_other)))

-- ---- the column aliases

-- `if let Some((name, token)) = extract_alias_name(..)`, then push
unfoldable pub push_if_alias : QueryScope → Rec → Option Ident → QueryScope
push_if_alias scope subtree None = scope
push_if_alias scope subtree (Some i) = push_column_alias scope (binding_of subtree i.token i.name)

-- fn collect_column_aliases(tree, source, scope)
unfoldable pub collect_column_aliases : Forest → List ℕ → QueryScope → Call QueryScope
collect_column_aliases nil source scope = gives scope
collect_column_aliases (token t rest) source scope = collect_column_aliases rest source scope
collect_column_aliases (node subtree children rest) source scope =
    let alias : Call QueryScope = do
      i ← extract_alias_name children source None
      gives (push_if_alias scope subtree i)
    in
    let list : Call QueryScope = collect_column_aliases children source scope in
    do
      s ← cond (eqb subtree.kind column_alias) alias
          (cond (eqb subtree.kind column_list || eqb subtree.kind expression_list) list (gives scope))
      collect_column_aliases rest source s

-- ---- the scope

-- the body of `collect_scope` for a tree of this kind, where `loop` is its loop over the children: a WITH returns before it
unfoldable pub body : ℕ → Forest → List ℕ → (QueryScope → Call QueryScope) → QueryScope → Call QueryScope
body kind children source loop scope =
    let tables : Call QueryScope = do
      s ← collect_table_refs None children source scope
      loop s
    in
    let columns : Call QueryScope = do
      s ← collect_column_aliases children source scope
      loop s
    in
    cond (eqb kind with_clause) (collect_ctes children source scope)
    (cond (eqb kind from_clause || eqb kind join_clause) tables
    (cond (eqb kind select_clause) columns
    (loop scope)))

-- that loop: `continue` at a subquery, else `collect_scope` of the child
unfoldable pub each_child : Forest → List ℕ → QueryScope → Call QueryScope
each_child nil source scope = gives scope
each_child (token t rest) source scope = each_child rest source scope
each_child (node subtree children rest) source scope =
    let collected : Call QueryScope = body subtree.kind children source (λ s. each_child children source s) scope in
    do
      s ← cond (eqb subtree.kind subquery_expression) (gives scope) collected
      each_child rest source s

-- fn collect_scope(tree, source, scope)
unfoldable pub collect_scope : Rec → Forest → List ℕ → QueryScope → Call QueryScope
collect_scope tree children source scope = body tree.kind children source (λ s. each_child children source s) scope

-- fn build_scope(tree, source)
unfoldable pub build_scope : Rec → Forest → List ℕ → Call QueryScope
build_scope tree children source =
    collect_scope tree children source (record { ctes = []; table_aliases = []; column_aliases = []; table_refs = [] })

-- ---- the enclosing statement

-- its `is_statement`
abbrev pub is_statement_kind : ℕ → Bool
is_statement_kind =
    one_of
    (select_statement
    ∷ insert_statement
    ∷ create_statement
    ∷ alter_statement
    ∷ delete_statement
    ∷ update_statement
    ∷ drop_statement
    ∷ show_statement
    ∷ explain_statement
    ∷ describe_statement
    ∷ [])

-- `if let Some(found) = .. return Some(found)`, else the other
unfoldable pub or_return : {A : Type 0} → Option A → Option A → Option A
or_return None on = on
or_return (Some x) on = Some x

-- fn find_enclosing_statement(tree, offset), where `deeper` is what its loop over the children returns
unfoldable pub enclosing : Rec → ℕ → Option Rec → Option Rec
enclosing tree offset deeper =
    cond (ltb tree.end tree.start) None
    (cond (ltb offset tree.start || ltb tree.end offset) None
    (or_return deeper (cond (is_statement_kind tree.kind) (Some tree) None)))

-- that loop
unfoldable pub deeper_statement : Forest → ℕ → Option Rec
deeper_statement nil offset = None
deeper_statement (token t rest) offset = deeper_statement rest offset
deeper_statement (node subtree children rest) offset =
    let on : Option Rec = deeper_statement rest offset in
    or_return (enclosing subtree offset (deeper_statement children offset)) on

abbrev pub find_enclosing_statement : Rec → Forest → ℕ → Option Rec
find_enclosing_statement tree children offset = enclosing tree offset (deeper_statement children offset)

-- ---- where it stops: the tokens that `unquote` is called on

-- a token of kind Quoted
unfoldable pub is_quoted : Rec → Bool
is_quoted t = eqb t.kind quoted_identifier

-- of some names the first, if it is a Quoted
unfoldable pub first_quoted : List Rec → List Rec
first_quoted [] = []
first_quoted (t ∷ more) = cond (is_quoted t) (t ∷ []) []

-- what the siblings of one kind give, also those in lists, at any nesting
unfoldable pub given_in : ℕ → (ℕ → Bool) → (Forest → List Rec) → Forest → List Rec
given_in kind is_list give nil = []
given_in kind is_list give (token r rest) = given_in kind is_list give rest
given_in kind is_list give (node r below rest) =
    let inside : List Rec = given_in kind is_list give below in
    let through : List Rec = cond (is_list r.kind) inside [] in
    cond (eqb r.kind kind) (give below) through ++ given_in kind is_list give rest

-- by `extract_cte`: the name of each item of a With, where it is a Quoted
abbrev pub unquoted_items : List ℕ → Forest → List Rec
unquoted_items src = given_in with_expression_item (λ k. eqb k column_list) (λ below. first_quoted (direct (is_name src) below))

-- by `extract_alias_name`: every direct Quoted of each column alias of a Select
abbrev pub unquoted_columns : Forest → List Rec
unquoted_columns = given_in column_alias (λ k. eqb k column_list || eqb k expression_list) (direct is_quoted)

-- by `extract_alias_name`: every direct Quoted of each table alias that is read while a reference is pending
unfoldable pub unquoted_reading : Bool → Forest → List Rec
unquoted_reading pending nil = []
unquoted_reading pending (token r rest) = unquoted_reading pending rest
unquoted_reading pending (node r below rest) =
    let name : List Rec = unquoted_reading (has_one_or_two below) rest in
    let alias : List Rec = cond pending (direct is_quoted below) [] ++ unquoted_reading pending rest in
    let table : List Rec = unquoted_reading false below ++ unquoted_reading pending rest in
    let join : List Rec = unquoted_reading false below ++ unquoted_reading false rest in
    let other : List Rec = unquoted_reading pending rest in
    cond (eqb r.kind table_identifier) name
    (cond (eqb r.kind table_alias) alias
    (cond (eqb r.kind table_expression) table
    (cond (eqb r.kind join_clause) join
    other)))

-- a node's own part
unfoldable pub own_unquoted : List ℕ → ℕ → Forest → List Rec
own_unquoted src k below =
    cond (eqb k with_clause) (unquoted_items src below)
    (cond (eqb k from_clause || eqb k join_clause) (unquoted_reading false below)
    (cond (eqb k select_clause) (unquoted_columns below)
    []))

-- of the root i
abbrev pub unquoted_at : List ℕ → List ℕ → ℕ → List Rec
unquoted_at source t i = collection (own_unquoted source) (record_at t 0 i) (inside t i)

-- a lone quote mark: one byte, a backtick or a double quote
unfoldable pub is_lone : List ℕ → Rec → Bool
is_lone src t = eqb t.end (t.start + 1) && is_mark (byte_at src t.start)

-- one of some tokens is one
unfoldable pub any_lone : List ℕ → List Rec → Bool
any_lone src [] = false
any_lone src (t ∷ ts) = is_lone src t || any_lone src ts

-- ---- the second reading says the same

-- 4294967295 twice where there is none
unfoldable pub range_or : Option Range → Range
range_or None = absent
range_or (Some r) = r

-- the Rust's entries as document 01 has them
unfoldable pub as_binding : Binding → NameBinding
as_binding b = record { token = b.range; name = b.name; definition = b.definition_range }

-- what is compared of a reference: the Rust has one range of each name
pub record Compared : Type 0 where
  pub «record» : ℕ
  pub database : Range
  pub table : Range
  pub alias : Range

-- document 02 §3: the outer range for databases and tables, the inner one for the rest
unfoldable pub compared : TableRef → Compared
compared e = record { «record» = e.«record»; database = e.database.outer; table = e.table.outer; alias = e.alias.inner }

unfoldable pub reference : Reference → Compared
reference r = record { «record» = r.tree.index; database = range_or r.database; table = r.table; alias = range_or r.alias }

unfoldable pub found : Option Rec → Option ℕ
found None = None
found (Some r) = Some r.index

-- what `build_scope` gives of the node that is record i
abbrev pub scope_at : List ℕ → List ℕ → ℕ → Call QueryScope
scope_at source t i = build_scope (record_at t 0 i) (inside t i) source

-- four lists are document 01's of the root i
pub record FourLists (source t : List ℕ) (i : ℕ) (s : QueryScope) : Type 0 where
  pub with-names : map as_binding s.ctes ≡ with_names source t i
  pub table-aliases : map as_binding s.table_aliases ≡ table_aliases source t i
  pub column-aliases : map as_binding s.column_aliases ≡ column_aliases source t i
  pub table-refs : map reference s.table_refs ≡ map compared (table_refs source t i)

-- `build_scope` stops exactly if a lone quote mark of kind Quoted is unquoted, also where a later name of the same alias would take its place; else its
-- four lists are document 01's. And so is the enclosing statement
pub record ScopeRs (source t : List ℕ) : Type 0 where
  pub stops-exactly : (i : ℕ) → i < count t → (scope_at source t i ≡ stops) ↔ (any_lone source (unquoted_at source t i) ≡ true)
  pub four-lists : (i : ℕ) → i < count t → (s : QueryScope) → scope_at source t i ≡ gives s → FourLists source t i s
  pub enclosing-statement : (o : ℕ) → found (find_enclosing_statement (record_at t 0 0) (kids (records 0 t)) o) ≡ enclosing_at t o
