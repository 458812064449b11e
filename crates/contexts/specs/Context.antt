-- Document 01, "Worked by hand": the numbers and values of the contexts.
-- Definitions only.
use Rattle.std.specs.Prelude.{ℕ, ◌*◌, ◌<◌, List, [], ◌∷◌, Option, None, Some, unwrap_or}
use Rattle.records.specs.declared.range.Range.{Range}
use Rattle.contexts.specs.declared.context.CursorContext.{CursorContext}
use Rattle.contexts.specs.declared.context.CursorContext.TheVariants.{SelectExpression, TableReference, ColumnOfTable, Expression, SettingName, EngineName, FormatName, DataType, CodecName, FunctionArgument, StatementStart, Unknown}
use Rattle.contexts.specs.declared.context.Coded.{Coded}
use Rattle.lent.specs.Numbers.{number_bytes}
use Rattle.records.specs.Ranges.{absent, absent_number}

-- ---- the numbers and values of the contexts

-- 4294967295 twice where there is no name
unfoldable pub range_of : Option Range → Range
range_of name = unwrap_or name absent

-- a context's number, its name's range, and its argument index
abbrev pub code : ℕ → Option Range → ℕ → Coded
code n name i = record { number = n; name = range_of name; index = i }

-- a table reference has one number without a prefix and another with one
unfoldable pub reference_number : Option Range → ℕ
reference_number None = 1
reference_number (Some r) = 2

unfoldable pub coded : CursorContext → Coded
coded SelectExpression = code 0 None 0
coded (TableReference prefix) = code (reference_number prefix) prefix 0
coded (ColumnOfTable qualifier) = code 3 (Some qualifier) 0
coded Expression = code 4 None 0
coded SettingName = code 5 None 0
coded EngineName = code 6 None 0
coded FormatName = code 7 None 0
coded DataType = code 8 None 0
coded CodecName = code 9 None 0
coded (FunctionArgument name index) = code 10 name index
coded StatementStart = code 11 None 0
coded Unknown = code 12 None 0

-- the entry of a context: its number, its name's range and its argument index
unfoldable pub context_row : CursorContext → List ℕ
context_row c = (coded c).number ∷ (coded c).name.start ∷ (coded c).name.end ∷ (coded c).index ∷ []

-- how many bytes it takes
abbrev pub context_bytes : ℕ
context_bytes = 4 * number_bytes

-- a function's name, where there is one, starts before 4294967295: it is then told apart from none
unfoldable pub Starts : Option Range → Type 0
Starts None = Unit
Starts (Some r) = r.start < absent_number

unfoldable pub Ranged : CursorContext → Type 0
Ranged SelectExpression = Unit
Ranged (TableReference prefix) = Unit
Ranged (ColumnOfTable qualifier) = Unit
Ranged Expression = Unit
Ranged SettingName = Unit
Ranged EngineName = Unit
Ranged FormatName = Unit
Ranged DataType = Unit
Ranged CodecName = Unit
Ranged (FunctionArgument name index) = Starts name
Ranged StatementStart = Unit
Ranged Unknown = Unit
