-- Everything at a cursor in one call: the context, the root and the four lists, each as its own question gives it.
-- src is the source's bytes, t the table's, o the offset.
-- Definitions only.
use Rattle.lent.specs.declared.refusal.Refusal.{Refusal}
use Rattle.std.specs.Prelude.{ℕ, ◌≡◌, List, [], ◌∷◌, ◌++◌, length, drop, Result}
use Rattle.lent.specs.Verdicts.{Rule, first, Verdict}
use Rattle.lent.specs.Lists.{list_bytes, room_rule, reply, buffer}
use Rattle.table.specs.Rules.{rules}
use Rattle.names.specs.Bindings.{binding_row}
use Rattle.references.specs.References.{reference_row}
use Rattle.lists.specs.Scope.{table_aliases, column_aliases, table_refs}
use Rattle.contexts.specs.Context.{context_row}
use Rattle.cursor.specs.CursorContext.{context_at}
use Rattle.cursor_root.specs.Root.{root_at}
use Rattle.offers.specs.WithNames.{with_names_at}

-- the buffers that are lent: one for the entry, and one for each list, in document 01's order of lists
pub record Buffers : Type 0 where
  pub entry : List ℕ
  pub names : List ℕ
  pub aliases : List ℕ
  pub columns : List ℕ
  pub refs : List ℕ

-- the same from its parts
abbrev pub buffers : List ℕ → List ℕ → List ℕ → List ℕ → List ℕ → Buffers
buffers e w a c r = record { entry = e; names = w; aliases = a; columns = c; refs = r }

-- the entry: the context's numbers, the root's record, and how many entries each list has
unfoldable pub everything_row : List ℕ → List ℕ → ℕ → List ℕ
everything_row src t o =
    context_row (context_at src t o)
    ++ root_at t o
    ∷ length (with_names_at src t o)
    ∷ length (table_aliases src t (root_at t o))
    ∷ length (column_aliases src t (root_at t o))
    ∷ length (table_refs src t (root_at t o))
    ∷ []

-- 7, of which the first that has no room gives the detail: the entry, then each list
unfoldable pub room_rules : List ℕ → List ℕ → ℕ → Buffers → List Rule
room_rules src t o b =
    room_rule (λ r. r) (everything_row src t o ∷ []) b.entry
    ∷ room_rule binding_row (with_names_at src t o) b.names
    ∷ room_rule binding_row (table_aliases src t (root_at t o)) b.aliases
    ∷ room_rule binding_row (column_aliases src t (root_at t o)) b.columns
    ∷ room_rule reference_row (table_refs src t (root_at t o)) b.refs
    ∷ []

-- the verdict on the call: 1 to 6, then 7
unfoldable pub everything_verdict : List ℕ → List ℕ → ℕ → Buffers → Verdict
everything_verdict src t o b = first (rules t (length src) 0 ++ room_rules src t o b)

-- a buffer afterwards, by the verdict: as it was, or with the entries from its first byte on and the bytes behind them kept
abbrev pub filled : {E : Type 0} → Verdict → (E → List ℕ) → List E → List ℕ → List ℕ
filled v row es out = buffer v (list_bytes row es ++ drop (length (list_bytes row es)) out) out

-- what the call leaves in its buffers
pub record Leaves (src t : List ℕ) (o : ℕ) (before after : Buffers) : Type 0 where
  pub entry : after.entry ≡ filled (everything_verdict src t o before) (λ r. r) (everything_row src t o ∷ []) before.entry
  pub names : after.names ≡ filled (everything_verdict src t o before) binding_row (with_names_at src t o) before.names
  pub aliases : after.aliases ≡ filled (everything_verdict src t o before) binding_row (table_aliases src t (root_at t o)) before.aliases
  pub columns : after.columns ≡ filled (everything_verdict src t o before) binding_row (column_aliases src t (root_at t o)) before.columns
  pub refs : after.refs ≡ filled (everything_verdict src t o before) reference_row (table_refs src t (root_at t o)) before.refs

-- its reply: one entry, or a refusal
abbrev pub everything_reply : List ℕ → List ℕ → ℕ → Buffers → Result ℕ Refusal
everything_reply src t o before = reply (everything_verdict src t o before) 1

-- the call: its reply, and its buffers before and afterwards
abbrev pub Everything : List ℕ → List ℕ → ℕ → Buffers → Result ℕ Refusal → Buffers → Type 0
Everything src t o before replied after = (replied ≡ everything_reply src t o before) × Leaves src t o before after
