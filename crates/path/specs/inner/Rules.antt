-- Which path rule speaks of a node. A reader of the promises needs none of it: contexts/specs/PathRules.antt has the rules.
-- Definitions only.
use Rattle.std.specs.Prelude.{ℕ, Bool, true, false, cond, eqb, [], ◌∷◌, Option, None, Some}
use Rattle.records.specs.Kinds.{file, query_list, error, insert_statement, select_clause, from_clause, join_clause, prewhere_clause, where_clause, group_by_clause, having_clause, order_by_clause, settings_clause, setting_list, engine_clause, format_clause, insert_format_clause, table_identifier, column_definition, column_type_definition, column_codec, data_type, data_type_parameters, function_call, aggregate_function}
use Rattle.path.specs.declared.rules.PathRule.{PathRule}
use Rattle.path.specs.declared.rules.PathRule.TheVariants.{From, Join, Insert, Settings, Engine, Format, DataType, Definition, Codec, Function, Column, Start}
use Rattle.path.specs.Path.{Next}
use Rattle.path.specs.Path.{one_of, is_deepest, deepest_over}

-- the rule that speaks of kind k, where it applies with n next below, or none
unfoldable pub rule_of : ℕ → Next → Option PathRule
rule_of k n =
    cond (one_of (from_clause ∷ []) k) (Some From)
    (cond (one_of (join_clause ∷ []) k) (Some Join)
    (cond (one_of (insert_statement ∷ []) k) (cond (deepest_over table_identifier n) (Some Insert) None)
    (cond (one_of (settings_clause ∷ setting_list ∷ []) k) (Some Settings)
    (cond (one_of (engine_clause ∷ []) k) (Some Engine)
    (cond (one_of (format_clause ∷ insert_format_clause ∷ []) k) (Some Format)
    (cond (one_of (column_type_definition ∷ data_type ∷ data_type_parameters ∷ []) k) (Some DataType)
    (cond (one_of (column_definition ∷ []) k) (cond (deepest_over error n) (Some Definition) None)
    (cond (one_of (column_codec ∷ []) k) (Some Codec)
    (cond (one_of (function_call ∷ aggregate_function ∷ []) k) (Some Function)
    (cond (one_of (select_clause ∷ prewhere_clause ∷ where_clause ∷ group_by_clause ∷ having_clause ∷ order_by_clause ∷ []) k) (Some Column)
    (cond (one_of (file ∷ query_list ∷ []) k) (cond (is_deepest n) (Some Start) None)
    None)))))))))))

-- a rule that speaks of the deepest node applies also where a node of kind b is next below
unfoldable pub applies_over : PathRule → ℕ → Bool
applies_over Insert b = eqb b table_identifier
applies_over Definition b = eqb b error
applies_over Start b = false
applies_over r b = true

-- a rule's number there: rule 1 is the trailing rule
abbrev pub rule_number : PathRule → ℕ
rule_number From = 2
rule_number Join = 3
rule_number Insert = 4
rule_number Settings = 5
rule_number Engine = 6
rule_number Format = 7
rule_number DataType = 8
rule_number Definition = 9
rule_number Codec = 10
rule_number Function = 11
rule_number Column = 12
rule_number Start = 13

-- the rule of a number, if there is one
unfoldable pub rule_numbered : ℕ → Option PathRule
rule_numbered n =
    cond (eqb n 2) (Some From)
    (cond (eqb n 3) (Some Join)
    (cond (eqb n 4) (Some Insert)
    (cond (eqb n 5) (Some Settings)
    (cond (eqb n 6) (Some Engine)
    (cond (eqb n 7) (Some Format)
    (cond (eqb n 8) (Some DataType)
    (cond (eqb n 9) (Some Definition)
    (cond (eqb n 10) (Some Codec)
    (cond (eqb n 11) (Some Function)
    (cond (eqb n 12) (Some Column)
    (cond (eqb n 13) (Some Start)
    None)))))))))))
