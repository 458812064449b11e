-- Everything at a cursor: from the counts and the rooms to the verdict, and from the lists with room to the buffers.
--     everything-refused, ..    the call: refused by the table's rules or for want of room; given
-- Assumes nothing.
use Prim.Native.Nat.{ℕ}
use mathlib.Core.Path.{◌≡◌, refl, sym, ◌∙◌}
use mathlib.Core.Bool.{false}
use mathlib.Core.List.{List, [], ◌∷◌, ◌++◌}
use lib.ListN.{length, drop}
use lib.Dec.{ltb}
use borrow.Author.Tests.{ltb-false}
use Rattle.std.specs.Prelude.{Ok, Err}
use Rattle.lent.specs.declared.refusal.Refusal.{Refusal}
use Rattle.lent.specs.Verdicts.{Rule, first, Verdict}
use Rattle.lent.specs.Lists.{row_bytes, list_bytes, room_rule, reply, buffer, lent, put}
use Rattle.lent.proofs.Verdicts.{then-refused, then-admitted, unbroken}
use Rattle.lent.proofs.Writes.{length-wide, written_one, written-whole}
use Rattle.table.specs.Rules.{rules}
use Rattle.names.specs.Bindings.{binding_row, binding_bytes}
use Rattle.references.specs.References.{reference_row, reference_bytes}
use Rattle.lists.specs.Scope.{table_aliases, column_aliases, table_refs}
use Rattle.contexts.specs.Context.{context_row}
use Rattle.cursor.specs.CursorContext.{context_at}
use Rattle.cursor_root.specs.Root.{root_at}
use Rattle.enclosing.specs.Offered.{offered_in}
use Rattle.offers.specs.WithNames.{with_names_at}
use Rattle.rooms.specs.declared.rooms.Counts.{Counts}
use Rattle.rooms.specs.Rooms.{everything_bytes}
use Rattle.rooms.specs.inner.Counted.{rooms_for}
use Rattle.four_lists.specs.inner.Counts.{counts_in}
use Rattle.everything.specs.Everything.{Buffers, buffers, everything_row, room_rules, everything_verdict, Everything}
use Rattle.everything.specs.inner.Counted.{counted_row}

-- a list that has room
roomy : {E : Type 0} (row : E → List ℕ) (es : List E) (out : List ℕ) → ltb (length out) (length (list_bytes row es)) ≡ false
    → lent [] row es out ≡ list_bytes row es ++ drop (length (list_bytes row es)) out
unfolding lent buffer
roomy row es out e = rw e

-- of five rules that admit together none is broken
unbroken-five : (r s t u v : Rule) → Ok tt ≡ first (r ∷ s ∷ t ∷ u ∷ v ∷ [])
    → (r.broken ≡ false) × (s.broken ≡ false) × (t.broken ≡ false) × (u.broken ≡ false) × (v.broken ≡ false)
unbroken-five r s t u v e =
    let one : r.broken ≡ false = unbroken r (s ∷ t ∷ u ∷ v ∷ []) e in
    let e1 : Ok tt ≡ first (s ∷ t ∷ u ∷ v ∷ []) = rw one at e in
    let two : s.broken ≡ false = unbroken s (t ∷ u ∷ v ∷ []) e1 in
    let e2 : Ok tt ≡ first (t ∷ u ∷ v ∷ []) = rw two at e1 in
    let three : t.broken ≡ false = unbroken t (u ∷ v ∷ []) e2 in
    let e3 : Ok tt ≡ first (u ∷ v ∷ []) = rw three at e2 in
    let four : u.broken ≡ false = unbroken u (v ∷ []) e3 in
    let e4 : Ok tt ≡ first (v ∷ []) = rw four at e3 in
    (one, two, three, four, unbroken v [] e4)

module _ (src t : List ℕ) (o : ℕ) (b : Buffers) where
  abbrev all : Counts
  all = counts_in src t (root_at t o)

  -- the entry takes nine numbers
  pub entry-size : length (list_bytes (λ (r : List ℕ). r) (everything_row src t o ∷ [])) ≡ everything_bytes
  unfolding everything_row context_row list_bytes row_bytes
  entry-size = refl

  rooms-are : room_rules src t o b ≡ rooms_for all (length b.entry) (length b.names) (length b.aliases) (length b.columns) (length b.refs)
  unfolding room_rules rooms_for
  rooms-are =
      rw (
        entry-size,
        length-wide binding_row binding_bytes (λ e. refl) (with_names_at src t o),
        length-wide binding_row binding_bytes (λ e. refl) (table_aliases src t (root_at t o)),
        length-wide binding_row binding_bytes (λ e. refl) (column_aliases src t (root_at t o)),
        length-wide reference_row reference_bytes (λ e. refl) (table_refs src t (root_at t o)),
      )

  -- refused: nothing is touched
  refused : {r : Refusal} → Err r ≡ everything_verdict src t o b → Everything src t o b (Err r) b
  unfolding reply buffer
  refused e = (rw (← e), record { entry = rw (← e); names = rw (← e); aliases = rw (← e); columns = rw (← e); refs = rw (← e) })

  pub everything-refused : {r : Refusal} → Err r ≡ first (rules t (length src) 0) → Everything src t o b (Err r) b
  everything-refused e = refused (unfold everything_verdict in then-refused (rules t (length src) 0) (room_rules src t o b) e)

  module _ (ok : Ok tt ≡ first (rules t (length src) 0)) {c : Counts} {v : Verdict} (q : c ≡ all)
      (w : v ≡ first (rooms_for c (length b.entry) (length b.names) (length b.aliases) (length b.columns) (length b.refs))) where
    by-rooms : v ≡ everything_verdict src t o b
    unfolding everything_verdict
    by-rooms = w ∙ rw (q, ← rooms-are) (sym (then-admitted (rules t (length src) 0) (room_rules src t o b) ok))

    pub everything-short : {r : Refusal} → v ≡ Err r → Everything src t o b (Err r) b
    everything-short e = refused (sym e ∙ by-rooms)

    module _ (e : v ≡ Ok tt) where
      rooms : Ok tt ≡ first (room_rules src t o b)
      rooms = sym e ∙ w ∙ rw (q, ← rooms-are) refl

      pub everything-given : {out : List ℕ} {names aliases columns refs : List ℕ} → out ≡ put b.entry 0 (counted_row (context_at src t o) (root_at t o) c)
          → names ≡ lent [] binding_row (offered_in src t (root_at t o)) b.names
          → aliases ≡ lent [] binding_row (table_aliases src t (root_at t o)) b.aliases
          → columns ≡ lent [] binding_row (column_aliases src t (root_at t o)) b.columns
          → refs ≡ lent [] reference_row (table_refs src t (root_at t o)) b.refs
          → Everything src t o b (Ok 1) (buffers out names aliases columns refs)
      unfolding reply buffer room_rules everything_row
      everything-given p n a k r =
          let v = sym e ∙ by-rooms in
          let u =
          unbroken-five (room_rule (λ (x : List ℕ). x) (everything_row src t o ∷ []) b.entry) (room_rule binding_row (with_names_at src t o) b.names)
          (room_rule binding_row (table_aliases src t (root_at t o)) b.aliases) (room_rule binding_row (column_aliases src t (root_at t o)) b.columns)
          (room_rule reference_row (table_refs src t (root_at t o)) b.refs) rooms in (
            rw (← v),
            record {
              entry = rw (← v) (written-whole (λ (x : List ℕ). x) (written_one (λ (x : List ℕ). x) (everything_row src t o) b.entry 0 (rw q at p) refl) (ltb-false _ _ u.0));
              names = rw (← v) (n ∙ roomy binding_row (with_names_at src t o) b.names u.1);
              aliases = rw (← v) (a ∙ roomy binding_row (table_aliases src t (root_at t o)) b.aliases u.2);
              columns = rw (← v) (k ∙ roomy binding_row (column_aliases src t (root_at t o)) b.columns u.3);
              refs = rw (← v) (r ∙ roomy reference_row (table_refs src t (root_at t o)) b.refs u.4);
            },
          )
