-- What the replies of the questions say where the table is admitted, and how much room their lists need.
--     statement-found, ..   the statement: no refusal
--     list-given, ..        a list that is answered, and one that is not
-- Assumes nothing.
use Prim.Native.Nat.{ℕ, ◌+◌, ◌*◌, ◌≤◌}
use mathlib.Core.Path.{◌≡◌, refl, sym, ap, ◌∙◌}
use mathlib.Core.Bool.{Bool, true, false}
use mathlib.Core.List.{List, [], ◌∷◌, ◌++◌, map}
use native.Mathlib.Omega.{arith}
use native.Mathlib.Nat.{mul-le-mul_right}
use lib.Dec.{ltb}
use lib.ListN.{length, drop, length-append}
use borrow.Author.Tests.{ltb-false, le-ltb}
use Rattle.std.specs.Prelude.{Ok, Err, Result, Option, Some, None}
use Rattle.lent.specs.declared.refusal.Refusal.{Refusal}
use Rattle.lent.specs.Verdicts.{Rule, first, number_of, Verdict}
use Rattle.table.specs.Rules.{rules, root_rules, verdict}
use Rattle.lent.specs.Numbers.{number_bytes}
use Rattle.lent.specs.Lists.{list_bytes, room_rule, list_verdict, reply, buffer, listed, lent}
use Rattle.lent.proofs.Verdicts.{then-admitted}
use Rattle.lent.proofs.Writes.{length-wide}
use Rattle.forest.proofs.Sense.{admitted-tidy}
use Rattle.references.specs.References.{reference_bytes, reference_row}
use Rattle.lists.specs.Scope.{table_refs}
use Rattle.print.specs.Printed.{letter_t, printed_list, refusal_line}
use Rattle.report.specs.Output.{answered_by, answer_text, reference_room, question_verdict, unless_refused, replied}
use Rattle.report.specs.inner.Room.{entry_count, most_references, text_room}
use Rattle.lines.specs.Lines.{most_lines}
use Rattle.print.specs.inner.Writing.{printed_words, line_room}
use Rattle.print.proofs.Writing.{printed-are}
use Rattle.lent.specs.Fit32.{AllFit32}
use Rattle.scope.proofs.Fitting.{references-fit}

-- a verdict does not both admit and refuse
pub never_both : {v : Verdict} {r : Refusal} → Ok tt ≡ v → Err r ≡ v → ⊥
never_both a r = let z : ◌≡◌ {A = ℕ} 0 1 = cc in omega arith

-- ---- a list

entries-is : (v : Verdict) (m : ℕ) {n : ℕ} → Ok n ≡ reply v m → (Ok tt ≡ v) × (n ≡ m)
unfolding reply
entries-is (Ok tt) m e = (refl, cc)
entries-is (Err r) m e = absurd (let z : ◌≡◌ {A = ℕ} 0 1 = cc in omega arith)

denied-is : (v : Verdict) (m : ℕ) {r : Refusal} → Err r ≡ reply v m → Err r ≡ v
unfolding reply
denied-is (Ok tt) m e = absurd (let z : ◌≡◌ {A = ℕ} 0 1 = cc in omega arith)
denied-is (Err r') m e = cc

-- rules that admit together admit in part
pub admitted-first : (rs more : List Rule) → Ok tt ≡ first (rs ++ more) → Ok tt ≡ first rs
admitted-first [] more a = refl
admitted-first (r ∷ rs) more a = go r.broken refl (admitted-first rs more)
  where
    go : (b : Bool) → r.broken ≡ b → (Ok tt ≡ first (rs ++ more) → Ok tt ≡ first rs) → Ok tt ≡ first (r ∷ rs)
    go true e ih = absurd (never_both (rw e at a) refl)
    go false e ih = rw e (ih (rw e at a))

module _ {E : Type 0} (row : E → List ℕ) (rs : List Rule) (es : List E) (out : List ℕ) where
  pub list-given : {n : ℕ} → Ok n ≡ listed rs row es out → (Ok tt ≡ list_verdict rs row es out) × (n ≡ length es)
  unfolding listed
  list-given e = entries-is (list_verdict rs row es out) (length es) e

  pub list-denied : {r : Refusal} → Err r ≡ listed rs row es out → Err r ≡ list_verdict rs row es out
  unfolding listed
  list-denied e = denied-is (list_verdict rs row es out) (length es) e

  pub list-bytes : Ok tt ≡ list_verdict rs row es out → lent rs row es out ≡ list_bytes row es ++ drop (length (list_bytes row es)) out
  unfolding lent buffer
  list-bytes a = rw (← a)

  pub list-room : Ok tt ≡ list_verdict rs row es out → length (list_bytes row es) ≤ length out
  list-room a = go (ltb (length out) (length (list_bytes row es))) refl
    where
      go : (b : Bool) → ltb (length out) (length (list_bytes row es)) ≡ b → length (list_bytes row es) ≤ length out
      go true e = absurd (never_both (rw e at (a ∙ then-admitted rs (room_rule row es out ∷ []) (admitted-first rs (room_rule row es out ∷ []) a))) refl)
      go false e = ltb-false (length out) (length (list_bytes row es)) e

  -- a list that has room is not refused where its question is not
  pub list-not-denied : Ok tt ≡ first rs → length (list_bytes row es) ≤ length out → {r : Refusal} → Err r ≡ listed rs row es out → ⊥
  list-not-denied a h e = never_both refl (rw (le-ltb (length out) (length (list_bytes row es)) h) at (list-denied e ∙ then-admitted rs (room_rule row es out ∷ []) a))

-- a list whose entries have w numbers each
module _ {E : Type 0} (row : E → List ℕ) (w : ℕ) (wide : (e : E) → length (row e) ≡ w) where
  pub list-size : (es : List E) → length (list_bytes row es) ≡ length es * (number_bytes * w)
  list-size es = length-wide row (number_bytes * w) (λ e. ap (λ (x : ℕ). number_bytes * x) (wide e)) es

  -- where it is answered, it is read back from its buffer
  pub list_read : (rs : List Rule) (es : List E) (out : List ℕ) {n : ℕ} {list : List ℕ} → Ok n ≡ listed rs row es out → list ≡ lent rs row es out
      → AllFit32 row es → (n ≡ length es) × (n * (number_bytes * w) ≤ length list) × (n * (number_bytes * w) ≤ length out)
      × ((letter k : ℕ) → printed_words letter k w list 0 n ≡ printed_list letter k (map row es))
  list_read rs es out {n} {list} e q fit =
      let g = list-given row rs es out e in
      let b : list ≡ list_bytes row es ++ drop (length (list_bytes row es)) out = q ∙ list-bytes row rs es out g.0 in
      let m : n * (number_bytes * w) ≡ length (list_bytes row es) = rw g.1 (sym (list-size es)) in (
        g.1,
        omega (arith, m, ap length b, length-append (list_bytes row es) (drop (length (list_bytes row es)) out)),
        omega (arith, m, list-room row rs es out g.0),
        λ letter k. rw (b, g.1) (printed-are letter k w row wide es (drop (length (list_bytes row es)) out) fit),
      )

  -- where its table is admitted and it has room, it is not refused
  pub list-fits : (rs : List Rule) (es : List E) (out : List ℕ) (m : ℕ) (r : Result ℕ Refusal) {list : List ℕ} → Ok tt ≡ first rs → AllFit32 row es → length es ≤ m
      → m * (number_bytes * w) ≤ length out → r ≡ listed rs row es out → list ≡ lent rs row es out
      → (entry_count r ≤ m) × (entry_count r * (number_bytes * w) ≤ length list)
      × ((letter k : ℕ) → printed_words letter k w list 0 (entry_count r) ≡ printed_list letter k (map row es))
  unfolding entry_count
  list-fits rs es out m (Ok n) a fit f h e q = let g = list_read rs es out e q fit in (omega (arith, g.0), g.1, g.3)
  list-fits rs es out m (Err r) a fit f h e q =
      absurd (list-not-denied row rs es out a (omega (arith, list-size es, mul-le-mul_right (number_bytes * w) f)) e)

-- ---- the verdict on a frame's table

module _ (src t out : List ℕ) (z : length out ≡ reference_room) where
  same-verdict : list_verdict (root_rules t (length src) 0) reference_row (table_refs src t 0) out ≡ question_verdict src t
  unfolding question_verdict
  same-verdict = rw z

  module _ {r : Result ℕ Refusal} (w : r ≡ listed (root_rules t (length src) 0) reference_row (table_refs src t 0) out) where
    pub question-refused : {x : Refusal} → r ≡ Err x → (o : ℕ) → replied src t o ≡ refusal_line (number_of x.condition) x.detail
    unfolding unless_refused
    question-refused q o = rw (← (list-denied reference_row (root_rules t (length src) 0) (table_refs src t 0) out (sym q ∙ w) ∙ same-verdict))

    -- the references are read back from their buffer, and are the answer's
    pub question-read : {n : ℕ} {list : List ℕ} → r ≡ Ok n → list ≡ lent (root_rules t (length src) 0) reference_row (table_refs src t 0) out
        → (Ok tt ≡ verdict t (length src) 0) × (n * reference_bytes ≤ length list) × (n ≤ most_references)
        × ((o : ℕ) → replied src t o ≡ answered_by src t o (printed_words letter_t 1 13 list 0 n))
    unfolding verdict unless_refused answer_text
    question-read {n} {list} q b =
        let a : Ok tt ≡ list_verdict (root_rules t (length src) 0) reference_row (table_refs src t 0) out
        = (list-given reference_row (root_rules t (length src) 0) (table_refs src t 0) out (sym q ∙ w)).0 in
        let v : Ok tt ≡ first (rules t (length src) 0) = admitted-first (rules t (length src) 0) _ (admitted-first (root_rules t (length src) 0) _ a) in
        let fit = references-fit src t (length src) 0 0 v (admitted-tidy t (length src) 0 (sym v)).some in
        let g = list_read reference_row 13 (λ e. refl) (root_rules t (length src) 0) (table_refs src t 0) out (sym q ∙ w) b fit in (
          v,
          g.1,
          omega (arith, g.2, z),
          λ o. rw (← (a ∙ same-verdict), g.3 letter_t 1),
        )

-- ---- the room of an answer

-- an answer has room: a line for the context and the statement, one for each of n references, and one for each token and opener
pub answer-room : (n : ℕ) {r₁ r₂ r₃ r₄ r₅ : ℕ} → n ≤ most_references → r₁ ≤ 0 + line_room → r₂ ≤ r₁ + line_room → r₃ ≤ r₂ + line_room * n
    → r₄ ≤ r₃ + line_room * most_lines → r₅ ≤ r₄ + line_room * most_lines → r₅ + 2 ≤ text_room
answer-room n h a b c d e = omega arith
