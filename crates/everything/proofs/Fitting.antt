-- On an admitted table every number of the entry of everything at a cursor fits 32 bits: the context's, the root, how many entries each list has.
--     everything-fits
-- Assumes nothing.
use Prim.Native.Nat.{ℕ, ◌<◌}
use mathlib.Core.Path.{◌≡◌, refl}
use mathlib.Core.List.{List, [], ◌∷◌}
use native.Mathlib.Omega.{arith}
use Rattle.std.specs.Prelude.{Ok}
use Rattle.lent.specs.Numbers.{word_limit}
use Rattle.lent.specs.Fit32.{Fit32}
use Rattle.lent.proofs.Fit32.{fit_append}
use Rattle.table.specs.Rules.{verdict}
use Rattle.contexts.specs.Context.{context_row}
use Rattle.cursor.specs.CursorContext.{context_at}
use Rattle.cursor.proofs.Fitting.{context-fits}
use Rattle.cursor_root.specs.Root.{root_at}
use Rattle.cursor_root.proofs.RootLaws.{root-within}
use Rattle.scope.proofs.Fitting.{references-few, table-aliases-few, column-aliases-few}
use Rattle.offers.proofs.Fitting.{offered-few}
use Rattle.everything.specs.Everything.{everything_row}

five-fit : (a b c d e : ℕ) → a < word_limit → b < word_limit → c < word_limit → d < word_limit → e < word_limit → Fit32 (a ∷ b ∷ c ∷ d ∷ e ∷ [])
unfolding Fit32
five-fit a b c d e p q r s t = (p, (q, (r, (s, (t, tt)))))

pub everything-fits : (src t : List ℕ) (n o : ℕ) → Ok tt ≡ verdict t n 0 → Fit32 (everything_row src t o)
unfolding everything_row
everything-fits src t n o a =
    let i = root_at t o in
    let w = root-within t n o {i = root_at t o} a refl refl in
    fit_append (context_row (context_at src t o)) _ (context-fits src t n 0 o a)
    (five-fit i _ _ _ _ (omega (arith, w)) (omega (arith, offered-few src t n 0 a i w.0)) (omega (arith, table-aliases-few src t n 0 i a w.0))
    (omega (arith, column-aliases-few src t n 0 i a w.0)) (omega (arith, references-few src t n 0 i a w.0)))
