-- On an admitted table every number of the context at an offset fits 32 bits.
--     context-fits
-- Assumes nothing.
use Prim.Native.Nat.{ℕ}
use mathlib.Core.Path.{◌≡◌, sym}
use mathlib.Core.Bool.{Bool, true, false, cond, ◌&&◌}
use mathlib.Core.List.{List}
use native.Mathlib.Omega.{arith}
use lib.Dec.{eqb}
use Rattle.std.specs.Prelude.{Option, None, Some, Ok}
use Rattle.lent.specs.Fit32.{Fit32}
use Rattle.records.specs.Kinds.{file, join_constraint}
use Rattle.records.specs.Table.{kind_at}
use Rattle.table.specs.Rules.{verdict}
use Rattle.forest.specs.Forest.{inside}
use Rattle.forest.proofs.Sense.{admitted-tidy}
use Rattle.forest.proofs.Limits.{admitted-limited}
use Rattle.tokens.specs.LastToken.{last_two}
use Rattle.path.specs.Path.{path_at, on_path, deepest, trails}
use Rattle.contexts.specs.declared.context.CursorContext.{CursorContext}
use Rattle.contexts.specs.declared.context.CursorContext.TheVariants.{StatementStart, Unknown}
use Rattle.contexts.specs.Context.{range_of, coded, context_row}
use Rattle.contexts.proofs.Given.{OnlyGives, path-gives, trailing-gives}
use Rattle.contexts.proofs.Fitting.{ContextFits, plain_fits, reference-fits, qualified-fits, function-fits}
use Rattle.cursor.specs.CursorContext.{starts_after, last_rule, given_or, context_at}

given-fits : (other : CursorContext) (a : Option CursorContext) → ContextFits other → OnlyGives ContextFits a → ContextFits (given_or other a)
unfolding given_or OnlyGives
given-fits other None p q = p
given-fits other (Some c) p q = q

unknown-fits : ContextFits Unknown
unfolding context_row coded range_of Fit32
unknown-fits = (omega arith, (omega arith, (omega arith, (omega arith, tt))))

last_fits : (src t : List ℕ) (o : ℕ) → ContextFits (last_rule src t o)
unfolding last_rule
last_fits src t o = go (eqb (kind_at t 0) file && starts_after src (last_two o (inside t 0)).last)
  where
    go : (b : Bool) → ContextFits (cond b StatementStart Unknown)
    go true = plain_fits.statement
    go false = unknown-fits

pub context-fits : (src t : List ℕ) (n m o : ℕ) → Ok tt ≡ verdict t n m → ContextFits (context_at src t o)
unfolding context_at
context-fits src t n m o a =
    let l = admitted-limited t n m a in
    let f = (admitted-tidy t n m (sym a)).few in
    given-fits _ _
    (given-fits _ _ (last_fits src t o) (path-gives ContextFits plain_fits src t o (reference-fits src t o l f) (qualified-fits src t o l f) (function-fits src t o l f) (on_path join_constraint (path_at t o)) (path_at t o)))
    (trailing-gives ContextFits plain_fits t o (deepest trails (path_at t o)))
