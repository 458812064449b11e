-- The root at the cursor.
-- Assumes nothing.
use Prim.Native.Nat.{ℕ}
use mathlib.Core.Path.{◌≡◌, refl, sym, ap, ◌∙◌}
use mathlib.Core.List.{List}
use Rattle.lent.specs.declared.refusal.Refusal.{Refusal}
use Rattle.lent.specs.Verdicts.{Verdict}
use Rattle.std.proofs.lemmas.Option.{none-some, same_Some}
use Rattle.std.specs.Prelude.{Option, None, Some, unwrap_or}
use Rattle.records.specs.declared.record.Rec.{Rec}
use Rattle.statement.specs.Statement.{enclosing_at}
use Rattle.path.specs.declared.gathered.Gathered.{Gathered}
use Rattle.path.specs.Path.{path_at, deepest, is_subquery}
use Rattle.path.specs.inner.Gathered.{gathered}
use Rattle.cursor_root.specs.Root.{root_of, root_at}
use Rattle.path.proofs.Gathers.{numbered, gathered-query}

query-root : (b : Option Rec) (e : Option ℕ) {i : ℕ} → numbered b ≡ Some i → i ≡ root_of b e
unfolding numbered root_of
query-root None e h = absurd (none-some _ h)
query-root (Some r) e h = sym (same_Some _ _ h)

no-query : (b : Option Rec) (e : Option ℕ) → numbered b ≡ None → unwrap_or e 0 ≡ root_of b e
unfolding numbered root_of
no-query None e h = refl
no-query (Some r) e h = absurd (none-some _ (sym h))

module _ (t : List ℕ) (o : ℕ) {g : Gathered} (q : g ≡ gathered (path_at t o)) where
  query : g.query ≡ numbered (deepest is_subquery (path_at t o))
  query = ap (λ (x : Gathered). x.query) q ∙ gathered-query (path_at t o)

  pub root-query : {i : ℕ} → g.query ≡ Some i → i ≡ root_at t o
  unfolding root_at
  root-query h = query-root (deepest is_subquery (path_at t o)) (enclosing_at t o) (sym query ∙ h)

  pub root-else : g.query ≡ None → {x : Option ℕ} → x ≡ enclosing_at t o → unwrap_or x 0 ≡ root_at t o
  unfolding root_at
  root-else h e = rw e (no-query (deepest is_subquery (path_at t o)) (enclosing_at t o) (sym query ∙ h))
