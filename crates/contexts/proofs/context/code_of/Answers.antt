use Rattle.contexts.specs.Context.{coded}
use Rattle.contexts.proofs.context.code_of.Goals as goal

pub returns-in-SelectExpression : goal.returns-in-SelectExpression
unfolding coded
returns-in-SelectExpression c = rw c.in-SelectExpression.is c.code.ensures

pub returns-in-TableReference : goal.returns-in-TableReference
unfolding coded
returns-in-TableReference c = rw c.in-TableReference.is (rw c.reference_number.ensures at c.code-in-TableReference.ensures)

pub returns-in-ColumnOfTable : goal.returns-in-ColumnOfTable
unfolding coded
returns-in-ColumnOfTable c = rw c.in-ColumnOfTable.is c.code-in-ColumnOfTable.ensures

pub returns-in-Expression : goal.returns-in-Expression
unfolding coded
returns-in-Expression c = rw c.in-Expression.is c.code-in-Expression.ensures

pub returns-in-SettingName : goal.returns-in-SettingName
unfolding coded
returns-in-SettingName c = rw c.in-SettingName.is c.code-in-SettingName.ensures

pub returns-in-EngineName : goal.returns-in-EngineName
unfolding coded
returns-in-EngineName c = rw c.in-EngineName.is c.code-in-EngineName.ensures

pub returns-in-FormatName : goal.returns-in-FormatName
unfolding coded
returns-in-FormatName c = rw c.in-FormatName.is c.code-in-FormatName.ensures

pub returns-in-DataType : goal.returns-in-DataType
unfolding coded
returns-in-DataType c = rw c.in-DataType.is c.code-in-DataType.ensures

pub returns-in-CodecName : goal.returns-in-CodecName
unfolding coded
returns-in-CodecName c = rw c.in-CodecName.is c.code-in-CodecName.ensures

pub returns-in-FunctionArgument : goal.returns-in-FunctionArgument
unfolding coded
returns-in-FunctionArgument c = rw c.in-FunctionArgument.is c.code-in-FunctionArgument.ensures

pub returns-in-StatementStart : goal.returns-in-StatementStart
unfolding coded
returns-in-StatementStart c = rw c.in-StatementStart.is c.code-in-StatementStart.ensures

pub returns-in-Unknown : goal.returns-in-Unknown
unfolding coded
returns-in-Unknown c = rw c.in-Unknown.is c.code-in-Unknown.ensures
