-- Document 01, Cursor, "Then path nodes, deepest first": one rule for each of its lines, in its order.
-- Definitions only.
use Rattle.std.specs.Prelude.{ℕ, Bool, true, cond, ◌||◌, List, [], ◌∷◌, eqb, Option, None, Some}
use Rattle.records.specs.declared.range.Range.{Range}
use Rattle.records.specs.declared.record.Rec.{Rec}
use Rattle.records.specs.Kinds.{file, query_list, error, insert_statement, select_clause, from_clause, join_clause, prewhere_clause, where_clause, group_by_clause, having_clause, order_by_clause, settings_clause, setting_list, engine_clause, format_clause, insert_format_clause, join_constraint, table_identifier, column_definition, column_type_definition, column_codec, data_type, data_type_parameters, function_call, aggregate_function}
use Rattle.forest.specs.Forest.{Forest, inside}
use Rattle.contexts.specs.declared.context.CursorContext.{CursorContext}
use Rattle.contexts.specs.declared.context.CursorContext.TheVariants.{SelectExpression, TableReference, ColumnOfTable, Expression, SettingName, EngineName, FormatName, DataType, CodecName, FunctionArgument, StatementStart}
use Rattle.path.specs.Path.{Next}
use Rattle.path.specs.Path.{one_of, on_path, next_of, is_deepest, deepest_over}
use Rattle.tokens.specs.LastToken.{last_two, dotted, is_join_word}
use Rattle.tokens.specs.Function.{function_name, argument_index}

-- ---- what a rule looks at

-- a node on the path: its kind, what is next below it on the path, its children, and is kind 28 anywhere on the path
pub record Seen : Type 0 where
  pub kind : ℕ
  pub next : Next
  pub children : Forest
  pub constrained : Bool

-- ---- what a rule gives

-- TableReference, prefix if dotted
unfoldable pub table_reference : List ℕ → ℕ → Forest → CursorContext
table_reference src o f = TableReference (dotted src (last_two o f))

-- Expression if the last token is ON or USING, or if kind 28 is anywhere on the path; else as 16
unfoldable pub joined : List ℕ → ℕ → Bool → Forest → CursorContext
joined src o constrained f =
    let reference : CursorContext = table_reference src o f in
    cond (is_join_word src (last_two o f) || constrained) Expression reference

-- FunctionArgument
unfoldable pub function_argument : ℕ → Forest → CursorContext
function_argument o f = FunctionArgument (function_name f) (argument_index o f)

-- ColumnOfTable if dotted, else the other
unfoldable pub column_or : CursorContext → Option Range → CursorContext
column_or other None = other
column_or other (Some r) = ColumnOfTable r

-- ColumnOfTable if dotted, else SelectExpression for 15 and Expression for the rest
unfoldable pub column : List ℕ → ℕ → ℕ → Forest → CursorContext
column src o k f = column_or (cond (eqb k select_clause) SelectExpression Expression) (dotted src (last_two o f))

-- ---- the rules

-- a rule: its number, the kinds that it speaks of, when it applies to a node of such a kind, and what it then gives
pub record NodeRule : Type 0 where
  pub number : ℕ
  pub kinds : List ℕ
  pub applies : Bool
  pub gives : CursorContext

abbrev node_rule : ℕ → List ℕ → Bool → CursorContext → NodeRule
node_rule n ks a c = record { number = n; kinds = ks; applies = a; gives = c }

abbrev pub from_rule : List ℕ → ℕ → Seen → NodeRule
from_rule src o n = node_rule 2 (from_clause ∷ []) true (table_reference src o n.children)

abbrev pub join_rule : List ℕ → ℕ → Seen → NodeRule
join_rule src o n = node_rule 3 (join_clause ∷ []) true (joined src o n.constrained n.children)

abbrev pub insert_rule : List ℕ → ℕ → Seen → NodeRule
insert_rule src o n = node_rule 4 (insert_statement ∷ []) (deepest_over table_identifier n.next) (table_reference src o n.children)

abbrev pub settings_rule : List ℕ → ℕ → Seen → NodeRule
settings_rule src o n = node_rule 5 (settings_clause ∷ setting_list ∷ []) true SettingName

abbrev pub engine_rule : List ℕ → ℕ → Seen → NodeRule
engine_rule src o n = node_rule 6 (engine_clause ∷ []) true EngineName

abbrev pub format_rule : List ℕ → ℕ → Seen → NodeRule
format_rule src o n = node_rule 7 (format_clause ∷ insert_format_clause ∷ []) true FormatName

abbrev pub type_rule : List ℕ → ℕ → Seen → NodeRule
type_rule src o n = node_rule 8 (column_type_definition ∷ data_type ∷ data_type_parameters ∷ []) true DataType

abbrev pub definition_rule : List ℕ → ℕ → Seen → NodeRule
definition_rule src o n = node_rule 9 (column_definition ∷ []) (deepest_over error n.next) DataType

abbrev pub codec_rule : List ℕ → ℕ → Seen → NodeRule
codec_rule src o n = node_rule 10 (column_codec ∷ []) true CodecName

abbrev pub function_rule : List ℕ → ℕ → Seen → NodeRule
function_rule src o n = node_rule 11 (function_call ∷ aggregate_function ∷ []) true (function_argument o n.children)

abbrev pub column_rule : List ℕ → ℕ → Seen → NodeRule
column_rule src o n =
    node_rule 12 (select_clause ∷ prewhere_clause ∷ where_clause ∷ group_by_clause ∷ having_clause ∷ order_by_clause ∷ []) true
    (column src o n.kind n.children)

abbrev pub start_rule : List ℕ → ℕ → Seen → NodeRule
start_rule src o n = node_rule 13 (file ∷ query_list ∷ []) (is_deepest n.next) StatementStart

unfoldable pub path_rules : List ℕ → ℕ → Seen → List NodeRule
path_rules src o n =
    from_rule src o n
    ∷ join_rule src o n
    ∷ insert_rule src o n
    ∷ settings_rule src o n
    ∷ engine_rule src o n
    ∷ format_rule src o n
    ∷ type_rule src o n
    ∷ definition_rule src o n
    ∷ codec_rule src o n
    ∷ function_rule src o n
    ∷ column_rule src o n
    ∷ start_rule src o n
    ∷ []

-- what the rule that speaks of kind k gives, if it applies; all others go on
unfoldable pub ruled : ℕ → List NodeRule → Option CursorContext
ruled k [] = None
ruled k (r ∷ rs) =
    let given : Option CursorContext = cond r.applies (Some r.gives) None in
    let on : Option CursorContext = ruled k rs in
    cond (one_of r.kinds k) given on

-- ---- deepest first

-- this answer, or where it goes on the other
unfoldable pub else_ask : Option CursorContext → Option CursorContext → Option CursorContext
else_ask None other = other
else_ask (Some c) other = Some c

-- a node as the rules see it, where `deeper` is what the path has below it
abbrev pub seen : List ℕ → Bool → Rec → List Rec → Seen
seen t constrained r deeper =
    record { kind = r.kind; next = next_of deeper; children = inside t r.index; constrained = constrained }

-- what the nodes of a part of the path give, the deepest first
unfoldable pub by_path : List ℕ → List ℕ → ℕ → Bool → List Rec → Option CursorContext
by_path src t o constrained [] = None
by_path src t o constrained (r ∷ deeper) =
    else_ask (by_path src t o constrained deeper) (ruled r.kind (path_rules src o (seen t constrained r deeper)))

-- rules 2 to 13
abbrev pub path_rule : List ℕ → List ℕ → ℕ → List Rec → Option CursorContext
path_rule src t o p = by_path src t o (on_path join_constraint p) p
