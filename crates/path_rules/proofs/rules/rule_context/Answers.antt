use mathlib.Core.Path.{◌∙◌}
use Rattle.contexts.specs.PathRules.{path_rules}
use Rattle.contexts.specs.inner.ByNumber.{gives, given_by}
use Rattle.path.specs.declared.rules.PathRule.TheVariants.{From, Join, Insert, Settings, Engine, Format, DataType, Definition, Codec, Function, Column, Start}
use Rattle.path_rules.proofs.Numbers.{rule-given, none-given}
use Rattle.path_rules.proofs.rules.rule_context.Goals as goal

pub returns-in-Some-From : goal.returns-in-Some-From
unfolding gives given_by path_rules
returns-in-Some-From c = λ base. c.table_ref_or_dot.ensures base ∙ rule-given _ _ _ _ _ c.args.rule From c.numbered.ensures c.in-Some-From.is c.in-Some-From.field-0-is

pub returns-in-Some-Join : goal.returns-in-Some-Join
unfolding gives given_by path_rules
returns-in-Some-Join c = λ base. c.join_context.ensures base ∙ rule-given _ _ _ _ _ c.args.rule Join c.numbered.ensures c.in-Some-Join.is c.in-Some-Join.field-0-is

pub returns-in-Some-Insert : goal.returns-in-Some-Insert
unfolding gives given_by path_rules
returns-in-Some-Insert c = λ base. c.table_ref_or_dot-in-Some-Insert.ensures base ∙ rule-given _ _ _ _ _ c.args.rule Insert c.numbered.ensures c.in-Some-Insert.is c.in-Some-Insert.field-0-is

pub returns-in-Some-Settings : goal.returns-in-Some-Settings
unfolding gives given_by path_rules
returns-in-Some-Settings c = λ base. rule-given _ _ _ _ _ c.args.rule Settings c.numbered.ensures c.in-Some-Settings.is c.in-Some-Settings.field-0-is

pub returns-in-Some-Engine : goal.returns-in-Some-Engine
unfolding gives given_by path_rules
returns-in-Some-Engine c = λ base. rule-given _ _ _ _ _ c.args.rule Engine c.numbered.ensures c.in-Some-Engine.is c.in-Some-Engine.field-0-is

pub returns-in-Some-Format : goal.returns-in-Some-Format
unfolding gives given_by path_rules
returns-in-Some-Format c = λ base. rule-given _ _ _ _ _ c.args.rule Format c.numbered.ensures c.in-Some-Format.is c.in-Some-Format.field-0-is

pub returns-in-Some-DataType : goal.returns-in-Some-DataType
unfolding gives given_by path_rules
returns-in-Some-DataType c = λ base. rule-given _ _ _ _ _ c.args.rule DataType c.numbered.ensures c.in-Some-DataType.is c.in-Some-DataType.field-0-is

pub returns-in-Some-Definition : goal.returns-in-Some-Definition
unfolding gives given_by path_rules
returns-in-Some-Definition c = λ base. rule-given _ _ _ _ _ c.args.rule Definition c.numbered.ensures c.in-Some-Definition.is c.in-Some-Definition.field-0-is

pub returns-in-Some-Codec : goal.returns-in-Some-Codec
unfolding gives given_by path_rules
returns-in-Some-Codec c = λ base. rule-given _ _ _ _ _ c.args.rule Codec c.numbered.ensures c.in-Some-Codec.is c.in-Some-Codec.field-0-is

pub returns-in-Some-Function : goal.returns-in-Some-Function
unfolding gives given_by path_rules
returns-in-Some-Function c = λ base. c.function_argument.ensures base ∙ rule-given _ _ _ _ _ c.args.rule Function c.numbered.ensures c.in-Some-Function.is c.in-Some-Function.field-0-is

pub returns-in-Some-Column : goal.returns-in-Some-Column
unfolding gives given_by path_rules
returns-in-Some-Column c = λ base. c.column_context.ensures base ∙ rule-given _ _ _ _ _ c.args.rule Column c.numbered.ensures c.in-Some-Column.is c.in-Some-Column.field-0-is

pub returns-in-Some-Start : goal.returns-in-Some-Start
unfolding gives given_by path_rules
returns-in-Some-Start c = λ base. rule-given _ _ _ _ _ c.args.rule Start c.numbered.ensures c.in-Some-Start.is c.in-Some-Start.field-0-is

pub returns-in-None : goal.returns-in-None
returns-in-None c = λ base. none-given _ _ _ _ _ c.args.rule c.numbered.ensures c.in-None.is
