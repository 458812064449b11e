-- The numbers and values of a context tell any two apart, where a function's name, if there is one, starts before 4294967295.
-- Assumes nothing.
use mathlib.Core.Path.{◌≡◌, refl, sym, ap, ◌∙◌}
use mathlib.Core.Bool.{cond}
use native.Mathlib.Omega.{arith}
use borrow.Author.Tests.{ne_eqb}
use lib.Dec.{eqb}
use Rattle.std.specs.Prelude.{None, Some}
use Rattle.contexts.specs.declared.context.CursorContext.{CursorContext}
use Rattle.contexts.specs.declared.context.CursorContext.TheVariants.{SelectExpression, TableReference, ColumnOfTable, Expression, SettingName, EngineName, FormatName, DataType, CodecName, FunctionArgument, StatementStart, Unknown}
use Rattle.contexts.specs.declared.context.Coded.{Coded}
use Rattle.contexts.specs.Context.{range_of, reference_number, coded, Starts, Ranged}

-- the context that has this number and these values
decoded : Coded → CursorContext
decoded c =
    cond (eqb c.number 0) SelectExpression
    (cond (eqb c.number 1) (TableReference None)
    (cond (eqb c.number 2) (TableReference (Some c.name))
    (cond (eqb c.number 3) (ColumnOfTable c.name)
    (cond (eqb c.number 4) Expression
    (cond (eqb c.number 5) SettingName
    (cond (eqb c.number 6) EngineName
    (cond (eqb c.number 7) FormatName
    (cond (eqb c.number 8) DataType
    (cond (eqb c.number 9) CodecName
    (cond (eqb c.number 10) (FunctionArgument (cond (eqb c.name.start 4294967295) None (Some c.name)) c.index)
    (cond (eqb c.number 11) StatementStart
    Unknown)))))))))))

told : (c : CursorContext) → Ranged c → decoded (coded c) ≡ c
unfolding decoded coded range_of reference_number Ranged Starts
told SelectExpression h = refl
told (TableReference None) h = refl
told (TableReference (Some r)) h = refl
told (ColumnOfTable r) h = refl
told Expression h = refl
told SettingName h = refl
told EngineName h = refl
told FormatName h = refl
told DataType h = refl
told CodecName h = refl
told (FunctionArgument None i) h = refl
told (FunctionArgument (Some r) i) h = rw (ne_eqb r.start 4294967295 (λ e. omega arith))
told StatementStart h = refl
told Unknown h = refl

pub tells-apart : (a b : CursorContext) → Ranged a → Ranged b → coded a ≡ coded b → a ≡ b
tells-apart a b p q e = sym (told a p) ∙ ap decoded e ∙ told b q
