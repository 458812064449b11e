-- The class of a token: document 01's section on token classes.
-- Definitions only.
use Rattle.std.specs.Prelude.{ℕ, Bool, cond, not, ◌&&◌, ◌||◌, List, leb, eqb, Option, Some, None}
use Rattle.records.specs.Kinds.{table_identifier, table_alias, column_alias, data_type, nested_data_type, function_call, table_function, identifier, qualified_name, query_parameter_expression, database_definition, table_definition, dictionary_definition, expression, comment, bare_word, quoted_identifier, number, string_token, here_doc, plus, arrow}
use Rattle.text.specs.Text.{text}
use Rattle.classes.specs.declared.token_class.TokenClass.{TokenClass}
use Rattle.classes.specs.declared.token_class.TokenClass.TheVariants.{Keyword, Function, StringLiteral, Number, Comment, Operator, Variable, TypeName, Parameter, Property}
use Rattle.keywords.specs.Keywords.{is_keyword}

-- a kind from a to b
unfoldable pub between : ℕ → ℕ → ℕ → Bool
between a b k = leb a k && leb k b

-- ---- a parent's kind

-- 40 to 42: data types
abbrev pub is_type : ℕ → Bool
is_type p = between data_type nested_data_type p

-- 43 to 45: functions
abbrev pub is_function : ℕ → Bool
is_function p = between function_call table_function p

-- 33 to 35 and 50 to 54: tables and databases, and what defines them
abbrev pub is_table : ℕ → Bool
is_table p = between table_identifier table_alias p || between database_definition dictionary_definition p

-- 36 and 46 to 48: columns
abbrev pub is_column : ℕ → Bool
is_column p = eqb p column_alias || between identifier qualified_name p

-- ---- the class of a token

-- a BareWord with the direct parent p: 40 to 42 type, whatever the word; then if no keyword: 43 to 45 function, 33 to 35 and 50 to 54
-- property, 36 and 46 to 48 variable; then 49 parameter; keyword; 55 variable; else none
unfoldable pub judged : Bool → ℕ → Option TokenClass
judged keyword p =
    cond (is_type p) (Some TypeName)
    (cond (not keyword && is_function p) (Some Function)
    (cond (not keyword && is_table p) (Some Property)
    (cond (not keyword && is_column p) (Some Variable)
    (cond (eqb p query_parameter_expression) (Some Parameter)
    (cond keyword (Some Keyword)
    (cond (eqb p expression) (Some Variable) None))))))

unfoldable pub bareword : List ℕ → ℕ → Option TokenClass
bareword word p = judged (is_keyword word) p

-- a Quoted: 43 to 45 and 40 to 42 alike; 33, 34, 35, 50, 51 property; else variable
unfoldable pub by_parent : ℕ → TokenClass
by_parent p =
    cond (is_function p) Function
    (cond (is_type p) TypeName
    (cond (between table_identifier table_alias p || between database_definition table_definition p) Property Variable))

-- a token of this kind from start to end in the source, whose direct parent's kind is p, in the order of the tests of `classify_token`
unfoldable pub class_of : List ℕ → ℕ → ℕ → ℕ → ℕ → Option TokenClass
class_of source p kind start end =
    cond (eqb kind comment) (Some Comment)
    (cond (eqb kind number) (Some Number)
    (cond (between string_token here_doc kind) (Some StringLiteral)
    (cond (between plus arrow kind) (Some Operator)
    (cond (eqb kind quoted_identifier) (Some (by_parent p))
    (cond (eqb kind bare_word) (bareword (text source start end) p) None)))))

-- ---- its number

-- document 01's number of a class
abbrev pub number_of : TokenClass → ℕ
number_of Keyword = 0
number_of Function = 1
number_of StringLiteral = 2
number_of Number = 3
number_of Comment = 4
number_of Operator = 5
number_of Variable = 6
number_of TypeName = 7
number_of Parameter = 8
number_of Property = 9
