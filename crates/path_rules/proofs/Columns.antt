-- A column, where the reading is dotted.
-- Assumes nothing.
use mathlib.Core.Path.{◌≡◌}
use Rattle.std.specs.Prelude.{Option, None, Some}
use Rattle.records.specs.declared.range.Range.{Range}
use Rattle.contexts.specs.declared.context.CursorContext.{CursorContext}
use Rattle.contexts.specs.declared.context.CursorContext.TheVariants.{ColumnOfTable}
use Rattle.contexts.specs.PathRules.{column_or}

pub column-none : {n : Option Range} {other : CursorContext} → n ≡ None → other ≡ column_or other n
unfolding column_or
column-none e = rw e

pub column-some : {n : Option Range} {r : Range} (other : CursorContext) → n ≡ Some r → ColumnOfTable r ≡ column_or other n
unfolding column_or
column-some other e = rw e
