-- On an admitted table every number of the contexts at a list of offsets fits 32 bits, and there are as many as offsets.
--     contexts-fit, contexts-few
-- Assumes nothing.
use Prim.Native.Nat.{ℕ, ◌/◌}
use mathlib.Core.Path.{◌≡◌, ◌∙◌}
use mathlib.Core.List.{List, [], ◌∷◌, map}
use lib.ListN.{length, length-map}
use Rattle.std.specs.Prelude.{Ok}
use Rattle.lent.specs.Fit32.{AllFit32}
use Rattle.conditions.specs.Conditions.{offset_bytes}
use Rattle.table.specs.Rules.{verdict}
use Rattle.contexts.specs.Context.{context_row}
use Rattle.cursor.specs.CursorContext.{context_at}
use Rattle.cursor.proofs.Fitting.{context-fits}
use Rattle.cursors.specs.Cursors.{offsets_of, contexts_at}
use Rattle.cursors.proofs.CursorsLaws.{many}

module _ (src t : List ℕ) (n m : ℕ) (a : Ok tt ≡ verdict t n m) where
  each_fits : (xs : List ℕ) → AllFit32 context_row (map (context_at src t) xs)
  unfolding AllFit32
  each_fits [] = tt
  each_fits (x ∷ xs) = (context-fits src t n m x a, each_fits xs)

  pub contexts-fit : (os : List ℕ) → AllFit32 context_row (contexts_at src t os)
  contexts-fit os = each_fits (offsets_of os)

pub contexts-few : (src t os : List ℕ) → length (contexts_at src t os) ≡ length os / offset_bytes
contexts-few src t os = length-map (offsets_of os) (context_at src t) ∙ many src t os 0 (length os / offset_bytes)
