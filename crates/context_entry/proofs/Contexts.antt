-- The context for C: what the reply to the question says of the table, and the list of one entry that comes of it.
--     context-refused, context-given     the reply of the question, as that of a list
-- Assumes nothing.
use Prim.Native.Nat.{ℕ}
use mathlib.Core.Path.{◌≡◌}
use mathlib.Core.List.{List, [], ◌∷◌}
use Rattle.std.specs.Prelude.{Ok, Err, Result}
use Rattle.lent.specs.declared.refusal.Refusal.{Refusal}
use Rattle.table.specs.Rules.{rules, verdict}
use Rattle.lent.specs.Verdicts.{first}
use Rattle.lent.specs.Lists.{listed, lent, reply}
use Rattle.lent.proofs.Writes.{list-refused, list-admitted}
use Rattle.contexts.specs.declared.context.CursorContext.{CursorContext}
use Rattle.contexts.specs.Context.{context_row}
use Rattle.lent.proofs.Verdicts.{refused-is, given_is}

module _ (t : List ℕ) (n : ℕ) (x : CursorContext) (out : List ℕ) where
  pub context-refused : {r : Refusal} → Err r ≡ reply (verdict t n 0) x
      → (Err r ≡ listed (rules t n 0) context_row (x ∷ []) out) × (out ≡ lent (rules t n 0) context_row (x ∷ []) out)
  unfolding verdict
  context-refused e = list-refused context_row (rules t n 0) (x ∷ []) out (refused-is (first (rules t n 0)) x e)

  pub context-given : {y : CursorContext} {r : Result ℕ Refusal} {out' : List ℕ} → Ok y ≡ reply (verdict t n 0) x
      → (r ≡ listed [] context_row (y ∷ []) out) × (out' ≡ lent [] context_row (y ∷ []) out)
      → (r ≡ listed (rules t n 0) context_row (x ∷ []) out) × (out' ≡ lent (rules t n 0) context_row (x ∷ []) out)
  unfolding verdict
  context-given e w =
      let q = given_is (first (rules t n 0)) x e in
      list-admitted context_row (rules t n 0) (x ∷ []) out q.0 (rw q.1 at w)
