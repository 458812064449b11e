-- Everything at a cursor in one call:
--     at_once    the call gives what the six single questions give, or is refused as they are
-- Assumes nothing.
use Prim.Native.Nat.{ℕ, ◌+◌, ◌≤◌}
use mathlib.Core.Path.{◌≡◌, refl, sym, ap, ◌∙◌}
use mathlib.Core.Bool.{Bool, true, false, cond}
use mathlib.Core.List.{List, [], ◌∷◌, ◌++◌}
use mathlib.Core.Logic.{◌⊎◌, inl, inr}
use native.Mathlib.Omega.{arith}
use borrow.Author.Tests.{le-ltb, ltb-true, ltb-false}
use lib.Dec.{ltb}
use lib.ListN.{length, take, drop}
use Rattle.lent.specs.declared.refusal.Refusal.{Refusal}
use Rattle.std.specs.Prelude.{Ok, Err}
use Rattle.lent.specs.declared.refusal.Condition.TheVariants.{NoRoom}
use Rattle.lent.specs.Verdicts.{Rule, first, Verdict, refused, number_of}
use Rattle.lent.proofs.Verdicts.{then-refused, then-admitted, numbered}
use Rattle.lent.proofs.Writes.{list-refused}
use Rattle.lent.specs.Lists.{row_bytes, list_bytes, room_rule, list_verdict, reply, buffer, listed, lent}
use Rattle.table.specs.Rules.{rules, verdict}
use Rattle.table.proofs.Exactly.{refused-exactly}
use Rattle.names.specs.Bindings.{binding_row}
use Rattle.references.specs.References.{reference_row}
use Rattle.lists.specs.Scope.{table_aliases, column_aliases, table_refs}
use Rattle.contexts.specs.Context.{context_row, context_bytes}
use Rattle.cursor.specs.CursorContext.{context_at}
use Rattle.cursor_root.specs.Root.{root_at}
use Rattle.offers.specs.WithNames.{with_names_at}
use Rattle.replies.specs.Reply.{packed, answered, number_reply, reply_number}
use Rattle.everything.specs.Everything.{Buffers, buffers, everything_row, room_rules, everything_verdict, everything_reply, Leaves}
use Rattle.rooms.specs.Rooms.{everything_bytes}
use Rattle.everything.proofs.EverythingLaws.{entry-size}
use Rattle.demands.specs.declared.Question.{Question}
use Rattle.demands.specs.declared.Question.TheVariants.{CursorRoot}
use Rattle.demands.specs.Questions.{Asked, asked, matter, plain, number, list}
use Rattle.demands.specs.Demand1.{of-table, Answer, RefusedFor, Refuses}
use Rattle.demands.specs.AtOnce.{Single, Singles, answer_in, Together, FirstRefused, every, of_entry, of-names, of-aliases, of-columns, of_refs, AtOnce}
use Rattle.demands.proofs.Stages.{after, numbers}
use Rattle.demands.proofs.Replies.{packing, demanded, one-reply}
use Rattle.demands.proofs.Promises.{number-told, plain-told}

-- the answer of a packed answer
half_of : (n : ℕ) → answer_in (packed answered n) ≡ n
half_of n = omega arith

-- buffers that are the same one by one
same-buffers : (a b : Buffers) → a.entry ≡ b.entry → a.names ≡ b.names → a.aliases ≡ b.aliases → a.columns ≡ b.columns → a.refs ≡ b.refs → a ≡ b
same-buffers a b e n s c r =
    let z : buffers a.entry a.names a.aliases a.columns a.refs ≡ buffers b.entry b.names b.aliases b.columns b.refs = rw (e, n, s, c, r) in
    z

module _ (src t : List ℕ) (o : ℕ) where
  abbrev rs : List Rule
  rs = rules t (length src) 0

  -- ---- a single question for a list
  module _ {E : Type 0} (row : E → List ℕ) (es : List E) (b : List ℕ) {q : Question} (e : matter q (asked t src [] o [] 0 b) ≡ plain (list row es)) (s : Single q src t o b) where
    equations : (s.reply ≡ number_reply (listed rs row es b)) × (s.out ≡ lent rs row es b)
    equations =
        let a : Asked = asked t src [] o [] 0 b in
        one-reply q a s.met (demanded q a (rw e (plain-told a row es (refl, refl))))

    list-denied : {x : Refusal} → Err x ≡ first rs → RefusedFor s.reply (number_of x.condition) x.detail
    unfolding reply_number
    list-denied v = record { from = (numbered _).0; to = (numbered _).1; is = equations.0 ∙ ap number_reply (sym (list-refused row rs es b v).0) }

    module _ (ok : Ok tt ≡ first rs) where
      room-is : list_verdict rs row es b ≡ cond (ltb (length b) (length (list_bytes row es))) (refused NoRoom (length es)) (Ok tt)
      room-is = then-admitted rs (room_rule row es b ∷ []) ok

      list-short : ltb (length b) (length (list_bytes row es)) ≡ true → RefusedFor s.reply 7 (length es)
      unfolding listed reply reply_number
      list-short x = record { from = omega arith; to = omega arith; is = equations.0 ∙ rw (room-is, x) }

      list-given : ltb (length b) (length (list_bytes row es)) ≡ false
          → Answer s.reply × (answer_in s.reply ≡ length es) × (s.out ≡ list_bytes row es ++ drop (length (list_bytes row es)) b)
      unfolding listed lent reply buffer reply_number
      list-given x =
          let r : s.reply ≡ packed answered (length es) = equations.0 ∙ rw (room-is, x) in
          (record { said = length es; is = r }, rw r (half_of (length es)), equations.1 ∙ rw (room-is, x))

  -- ---- the single question for the root
  module _ (s : Single CursorRoot src t o []) where
    root-equation : s.reply ≡ packing (verdict t (length src) 0) (root_at t o)
    unfolding matter
    root-equation =
        let a : Asked = asked t src [] o [] 0 [] in
        (one-reply CursorRoot a s.met (demanded CursorRoot a (number-told a 0 (root_at t o) refl))).0

    root-denied : {x : Refusal} → Err x ≡ first rs → RefusedFor s.reply (number_of x.condition) x.detail
    unfolding packing verdict
    root-denied v = record { from = (numbered _).0; to = (numbered _).1; is = root-equation ∙ rw (← v) }

    root-given : Ok tt ≡ first rs → Answer s.reply × (answer_in s.reply ≡ root_at t o)
    unfolding packing verdict
    root-given v =
        let r : s.reply ≡ packed answered (root_at t o) = root-equation ∙ rw (← v) in
        (record { said = root_at t o; is = r }, rw r (half_of (root_at t o)))

  -- ---- the call
  module _ (b a : Buffers) (l : Leaves src t o b a) (s : Singles src t o b) {r : ℕ} (p : r ≡ number_reply (everything_reply src t o b)) where
    abbrev root : ℕ
    root = root_at t o

    -- refused: nothing is touched
    untouched : {x : Refusal} → Err x ≡ everything_verdict src t o b → a ≡ b
    unfolding buffer
    untouched v = same-buffers a b (rw (← v) at l.entry) (rw (← v) at l.names) (rw (← v) at l.aliases) (rw (← v) at l.columns) (rw (← v) at l.refs)

    is-refused : {x : Refusal} → Err x ≡ everything_verdict src t o b → r ≡ packed (number_of x.condition) x.detail
    unfolding reply reply_number
    is-refused v = p ∙ rw (← v)

    -- what is true of the call where it is refused with k and d, and of every other number nothing
    all-refused : {x : Refusal} → Err x ≡ everything_verdict src t o b → FirstRefused s (number_of x.condition) x.detail
        → (Answer r ⊎ Refuses r) × (Answer r → Together s a) × ((k' d' : ℕ) → RefusedFor r k' d' → FirstRefused s k' d' × (a ≡ b))
    all-refused {x} v w =
        let b = numbered x.condition in
        let e : r ≡ packed (number_of x.condition) x.detail = is-refused v in (
          inr (record { number = number_of x.condition; detail = x.detail; is = record { from = b.0; to = b.1; is = e } }),
          λ y. absurd (omega (arith, y.is, e)),
          λ k' d' y.
              let p : number_of x.condition ≡ k' = omega (arith, y.from, y.to, y.is, e) in
              let z : x.detail ≡ d' = omega (arith, y.from, y.to, y.is, e) in
              ((rw (p, z) at w), untouched v),
        )

    by-table : {x : Refusal} → Err x ≡ first rs → (Answer r ⊎ Refuses r) × (Answer r → Together s a) × ((k' d' : ℕ) → RefusedFor r k' d' → FirstRefused s k' d' × (a ≡ b))
    unfolding matter everything_verdict
    by-table v =
        all-refused (then-refused rs (room_rules src t o b) v)
        (every (list-denied context_row (context_at src t o ∷ []) b.entry refl s.context v) (root-denied s.root v)
        (list-denied binding_row (with_names_at src t o) b.names refl s.names v) (list-denied binding_row (table_aliases src t root) b.aliases refl s.aliases v)
        (list-denied binding_row (column_aliases src t root) b.columns refl s.columns v) (list-denied reference_row (table_refs src t root) b.refs refl s.refs v))

    module _ (ok : Ok tt ≡ first rs) where
      abbrev goal : Type 0
      goal = (Answer r ⊎ Refuses r) × (Answer r → Together s a) × ((k d : ℕ) → RefusedFor r k d → FirstRefused s k d × (a ≡ b))

      abbrev no-room : ℕ → Refusal
      no-room d = record { condition = NoRoom; detail = d }

      by-rooms : everything_verdict src t o b ≡ first (room_rules src t o b)
      unfolding everything_verdict
      by-rooms = then-admitted rs (room_rules src t o b) ok

      -- a buffer of c bytes is short of what these take
      abbrev short : {E : Type 0} → (E → List ℕ) → List E → List ℕ → Bool
      short row es out = ltb (length out) (length (list_bytes row es))

      abbrev entry-short : Bool
      entry-short = short (λ (x : List ℕ). x) (everything_row src t o ∷ []) b.entry

      roomy-entry : entry-short ≡ false → everything_bytes ≤ length b.entry
      roomy-entry e = omega (arith, ltb-false (length b.entry) (length (list_bytes (λ (x : List ℕ). x) (everything_row src t o ∷ []))) e, entry-size src t o b)

      typed : entry-short ≡ false → (Answer s.context.reply) × (take context_bytes s.context.out ≡ row_bytes (context_row (context_at src t o)))
      unfolding matter list_bytes row_bytes context_row
      typed e =
          let x = list-given context_row (context_at src t o ∷ []) b.entry refl s.context ok (le-ltb (length b.entry) context_bytes (omega (arith, roomy-entry e))) in
          (x.0, rw x.2)

      all-given : entry-short ≡ false → short binding_row (with_names_at src t o) b.names ≡ false → short binding_row (table_aliases src t root) b.aliases ≡ false
          → short binding_row (column_aliases src t root) b.columns ≡ false → short reference_row (table_refs src t root) b.refs ≡ false → goal
      unfolding matter room_rules reply reply_number buffer everything_row context_row list_bytes row_bytes
      all-given e0 e1 e2 e3 e4 =
          let v : Ok tt ≡ everything_verdict src t o b = sym (by-rooms ∙ rw (e0, e1, e2, e3, e4)) in
          let q : r ≡ packed answered 1 = p ∙ rw (← v) in
          let c = typed e0 in
          let n0 = root-given s.root ok in
          let n1 = list-given binding_row (with_names_at src t o) b.names refl s.names ok e1 in
          let n2 = list-given binding_row (table_aliases src t root) b.aliases refl s.aliases ok e2 in
          let n3 = list-given binding_row (column_aliases src t root) b.columns refl s.columns ok e3 in
          let n4 = list-given reference_row (table_refs src t root) b.refs refl s.refs ok e4 in (
            inl (record { said = 1; is = q }),
            λ x. record {
              root = n0.0;
              context = c.0;
              lists = (n1.0, n2.0, n3.0, n4.0);
              entry = rw (c.1, n0.1, n1.1, n2.1, n3.1, n4.1) (rw (← v) at l.entry);
              names = (rw (← v) at l.names) ∙ sym n1.2;
              aliases = (rw (← v) at l.aliases) ∙ sym n2.2;
              columns = (rw (← v) at l.columns) ∙ sym n3.2;
              refs = (rw (← v) at l.refs) ∙ sym n4.2;
            },
            λ k d x. absurd (omega (arith, x.from, x.to, x.is, q)),
          )

      by-bools : (β0 β1 β2 β3 β4 : Bool) → entry-short ≡ β0 → short binding_row (with_names_at src t o) b.names ≡ β1
          → short binding_row (table_aliases src t root) b.aliases ≡ β2 → short binding_row (column_aliases src t root) b.columns ≡ β3
          → short reference_row (table_refs src t root) b.refs ≡ β4 → goal
      unfolding matter room_rules
      by-bools true β1 β2 β3 β4 e0 e1 e2 e3 e4 =
          all-refused {x = no-room 1} (sym (by-rooms ∙ rw e0))
          (of_entry refl refl (root-given s.root ok).0 (omega (arith, ltb-true (length b.entry) (length (list_bytes (λ (x : List ℕ). x) (everything_row src t o ∷ []))) e0, entry-size src t o b)))
      by-bools false true β2 β3 β4 e0 e1 e2 e3 e4 =
          all-refused {x = no-room (length (with_names_at src t o))} (sym (by-rooms ∙ rw (e0, e1)))
          (of-names refl (roomy-entry e0) (list-short binding_row (with_names_at src t o) b.names refl s.names ok e1))
      by-bools false false true β3 β4 e0 e1 e2 e3 e4 =
          all-refused {x = no-room (length (table_aliases src t root))} (sym (by-rooms ∙ rw (e0, e1, e2)))
          (of-aliases refl (roomy-entry e0) (list-given binding_row (with_names_at src t o) b.names refl s.names ok e1).0
          (list-short binding_row (table_aliases src t root) b.aliases refl s.aliases ok e2))
      by-bools false false false true β4 e0 e1 e2 e3 e4 =
          all-refused {x = no-room (length (column_aliases src t root))} (sym (by-rooms ∙ rw (e0, e1, e2, e3)))
          (of-columns refl (roomy-entry e0) (list-given binding_row (with_names_at src t o) b.names refl s.names ok e1).0
          (list-given binding_row (table_aliases src t root) b.aliases refl s.aliases ok e2).0
          (list-short binding_row (column_aliases src t root) b.columns refl s.columns ok e3))
      by-bools false false false false true e0 e1 e2 e3 e4 =
          all-refused {x = no-room (length (table_refs src t root))} (sym (by-rooms ∙ rw (e0, e1, e2, e3, e4)))
          (of_refs refl (roomy-entry e0) (list-given binding_row (with_names_at src t o) b.names refl s.names ok e1).0
          (list-given binding_row (table_aliases src t root) b.aliases refl s.aliases ok e2).0
          (list-given binding_row (column_aliases src t root) b.columns refl s.columns ok e3).0
          (list-short reference_row (table_refs src t root) b.refs refl s.refs ok e4))
      by-bools false false false false false e0 e1 e2 e3 e4 = all-given e0 e1 e2 e3 e4

-- THE THEOREM
pub at_once : (src t : List ℕ) (o : ℕ) (before : Buffers) {reply : ℕ} {after : Buffers} → reply ≡ number_reply (everything_reply src t o before)
    → Leaves src t o before after → AtOnce src t o before reply after
at_once src t o b {reply} {after} p l s = go (first (rules t (length src) 0)) refl
  where
    go : (v : Verdict) → v ≡ first (rules t (length src) 0)
        → (Answer reply ⊎ Refuses reply) × (Answer reply → Together s after) × ((k d : ℕ) → RefusedFor reply k d → FirstRefused s k d × (after ≡ b))
    go (Err r) e = by-table src t o b after l s p e
    go (Ok tt) e = by-bools src t o b after l s p e _ _ _ _ _ refl refl refl refl refl
