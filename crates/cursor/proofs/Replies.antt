-- The rules in their order, and the reply.
-- Assumes nothing.
use Prim.Native.Nat.{ℕ, ◌*◌}
use mathlib.Core.Path.{◌≡◌, ◌∙◌}
use mathlib.Core.List.{List}
use lib.ListN.{drop}
use Rattle.std.specs.Prelude.{Option, None, Some}
use Rattle.records.specs.Table.{record_bytes, kind_at, records}
use Rattle.forest.specs.Forest.{kids}
use Rattle.path.specs.declared.gathered.Gathered.{Gathered}
use Rattle.path.specs.declared.gathered.Ruling.{Ruling}
use Rattle.path.specs.inner.Rules.{rule_number}
use Rattle.contexts.specs.declared.context.CursorContext.{CursorContext}
use Rattle.cursor.specs.CursorContext.{last_rule, given_or}
use Rattle.contexts.specs.inner.ByNumber.{trailing_from, given_by}
use Rattle.cursor.specs.inner.Steps.{told, ruled_by, analyzed}
use Rattle.forest.proofs.Laws.{rest-kind}
use Rattle.forest.proofs.Walking.{rest-inside}

module _ (src t : List ℕ) (o : ℕ) (g : Gathered) {a : Option CursorContext} (e : a ≡ trailing_from t o g.statement) where
  pub first-given : {x : CursorContext} → a ≡ Some x → x ≡ analyzed src t o g
  unfolding analyzed given_or
  first-given q = rw (← e, q)

  pub path-given : {x : CursorContext} {p : List ℕ} {r : Ruling} → a ≡ None → g.ruling ≡ Some r → p ≡ drop (record_bytes * r.node) t
      → ((base : ℕ) → x ≡ given_by src o g.constrained (rule_number r.rule) (kind_at p 0) (kids (records base p))) → x ≡ analyzed src t o g
  unfolding analyzed given_or ruled_by told
  path-given {r = r} q n d s = rw (← e, q, n) (s r.node ∙ rw (d, rest-kind t 0 r.node, rest-inside t r.node))

  pub last-given : {x : CursorContext} → a ≡ None → g.ruling ≡ None → x ≡ last_rule src t o → x ≡ analyzed src t o g
  unfolding analyzed given_or ruled_by told
  last-given q n s = rw (← e, q, n) s
