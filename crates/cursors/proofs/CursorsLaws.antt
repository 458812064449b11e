-- The contexts at the offsets, one after the other, as they are written.
--     Taking, taking-start, -step, -end            the loop
--     contexts-filled, contexts-short              the list
--     offset-refused, offset-admitted, ready       its rules, and what the check gives
-- Assumes nothing.
use Prim.Native.Nat.{ℕ, zero, suc, ◌+◌, ◌-◌, ◌*◌, ◌/◌, ◌≤◌, ◌<◌}
use mathlib.Core.Path.{◌≡◌, refl, sym, ap, ◌∙◌}
use mathlib.Core.Bool.{Bool, true, false, cond, ◌||◌}
use mathlib.Core.List.{List, [], ◌∷◌, ◌++◌, map, append_assoc, append-nil}
use native.Mathlib.Omega.{arith}
use native.Mathlib.Nat.{mul-div_cancel}
use borrow.Author.Tests.{ltb-false}
use lib.Dec.{ltb}
use lib.ListN.{length, length-map}
use Rattle.std.specs.Prelude.{Ok, Err}
use Rattle.lent.specs.declared.refusal.Condition.TheVariants.{BadLength, TooLong, NoRoom, BadOffsets}
use Rattle.lent.specs.declared.refusal.Refusal.{Refusal}
use Rattle.records.specs.Table.{count}
use Rattle.lent.specs.Numbers.{word, number_bytes}
use Rattle.conditions.specs.Conditions.{most_offsets, offset_bytes, bad_length, too_long, bad_offsets}
use Rattle.refusals.specs.ByRecord.{rules_from}
use Rattle.table.specs.Rules.{offset_rules, verdict, offset_verdict}
use Rattle.lent.specs.Verdicts.{first, Verdict, refused}
use Rattle.lent.specs.Lists.{put, list_bytes, Written, Answers}
use Rattle.lent.proofs.Writes.{written_none, written_one, written_then, length-wide, list-filled, list-short}
use Rattle.forest.proofs.Orders.{admitted-ordered}
use Rattle.forest.proofs.Sense.{admitted-sized}
use Rattle.contexts.specs.declared.context.CursorContext.{CursorContext}
use Rattle.contexts.specs.declared.context.Coded.{Coded}
use Rattle.contexts.specs.Context.{coded, context_row}
use Rattle.cursor.specs.CursorContext.{context_at}
use Rattle.cursors.specs.Cursors.{offsets_from, offsets_of, contexts_at}
use Rattle.starts.specs.inner.Ready.{Ready}

-- how many bytes an entry takes
abbrev entry_bytes : ℕ
entry_bytes = 16

wide : (c : CursorContext) → number_bytes * length (context_row c) ≡ entry_bytes
unfolding context_row
wide c = refl

module _ (src t os : List ℕ) where
  abbrev all : List CursorContext
  all = contexts_at src t os

  abbrev left-from : ℕ → List CursorContext
  left-from i = map (context_at src t) (offsets_from os i (length os / offset_bytes - i))

  -- at offset i, with what was written so far
  pub record Taking (out₀ : List ℕ) (i : ℕ) (out : List ℕ) (next : ℕ) : Type 0 where
    pub sofar : List CursorContext
    pub written : Written context_row sofar out₀ 0 out next
    pub left : sofar ++ left-from i ≡ all

  pub taking-start : (out : List ℕ) → Taking out 0 out 0
  taking-start out =
      let e : length os / offset_bytes - 0 ≡ length os / offset_bytes = omega arith in
      record { sofar = []; written = written_none context_row out 0; left = rw e }

  module _ {out₀ : List ℕ} {i : ℕ} {out : List ℕ} {next : ℕ} (w : Taking out₀ i out next) where
    pub taking_step : {o : ℕ} {k : Coded} {out' : List ℕ} {next' : ℕ} → i < length os / offset_bytes → o ≡ word os (offset_bytes * i) → k ≡ coded (context_at src t o)
        → out' ≡ put out next (k.number ∷ k.name.start ∷ k.name.end ∷ k.index ∷ []) → next' ≡ next + number_bytes * 4 → Taking out₀ (i + 1) out' next'
    unfolding offsets_from context_row
    taking_step {o} {k} h e c p q =
        let x : CursorContext = context_at src t (word os (offset_bytes * i)) in
        let d : length os / offset_bytes - i ≡ suc (length os / offset_bytes - (i + 1)) = omega arith in
        record {
          sofar = w.sofar ++ x ∷ [];
          written = written_then context_row w.written (written_one context_row x out next (p ∙ rw (c, e)) q);
          left = append_assoc w.sofar (x ∷ []) (left-from (i + 1)) ∙ (rw d at w.left);
        }

    pub taking-end : length os / offset_bytes ≤ i → Written context_row all out₀ 0 out next
    unfolding offsets_from
    taking-end h =
        let d : length os / offset_bytes - i ≡ 0 = omega arith in
        rw (← (rw (d, append-nil w.sofar) at w.left)) w.written

  -- ---- the list: an entry for each offset

  pub many : (i n : ℕ) → length (offsets_from os i n) ≡ n
  unfolding offsets_from
  many i zero = refl
  many i (suc n) = ap suc (many (i + 1) n)

  module _ {k : ℕ} (e : k ≡ length os / offset_bytes) where
    sized : length (list_bytes context_row all) ≡ k * entry_bytes
    sized = length-wide context_row entry_bytes wide all ∙ rw (length-map (offsets_of os) (context_at src t), many 0 (length os / offset_bytes), e)

    pub contexts-filled : (out : List ℕ) {out' : List ℕ} {m : ℕ} → Written context_row all out 0 out' m → k ≤ length out / entry_bytes
        → Answers [] context_row all out (Ok k) out'
    contexts-filled out {out'} {m} w h =
        let q : m ≡ k * entry_bytes = omega (arith, w.next, sized) in
        let r : m / entry_bytes ≡ k = rw q (mul-div_cancel k (omega arith)) in
        rw r at (list-filled context_row entry_bytes wide (omega arith) [] all out refl w (omega arith))

    pub contexts-short : (out : List ℕ) → length out / entry_bytes < k → Answers [] context_row all out (refused NoRoom k) out
    contexts-short out h =
        let r : k * entry_bytes / entry_bytes ≡ k = mul-div_cancel k (omega arith) in
        rw r at (list-short context_row entry_bytes wide (omega arith) [] all out refl (sym sized) (omega arith))

-- ---- the question: its rules, and what the check gives

-- what is admitted with 10 among its rules is admitted without it, and has no more offsets than 64
module _ (t : List ℕ) (n b : ℕ) where
  both-admitted : Ok tt ≡ offset_verdict t n b → (verdict t n 0 ≡ Ok tt) × (bad_offsets b ≡ false)
  unfolding verdict offset_verdict
  both-admitted = go (bad_length t) (too_long n 0) (bad_offsets b)
    where
      go : (p q r : Bool) → Ok tt ≡ cond p (refused BadLength 0) (cond q (refused TooLong 0) (cond r (refused BadOffsets 0) (first (rules_from t n 0 (count t)))))
          → (cond p (refused BadLength 0) (cond q (refused TooLong 0) (first (rules_from t n 0 (count t)))) ≡ Ok tt) × (r ≡ false)
      go true q r e = absurd (let z : ◌≡◌ {A = ℕ} 0 1 = cc in omega arith)
      go false true r e = absurd (let z : ◌≡◌ {A = ℕ} 0 1 = cc in omega arith)
      go false false true e = absurd (let z : ◌≡◌ {A = ℕ} 0 1 = cc in omega arith)
      go false false false e = (sym e, refl)

  few-offsets : bad_offsets b ≡ false → b / offset_bytes ≤ most_offsets
  few-offsets e = ltb-false most_offsets (b / offset_bytes) (left (ltb most_offsets (b / offset_bytes)) _ e)
    where
      left : (x y : Bool) → (x || y) ≡ false → x ≡ false
      left true y p = p
      left false y p = refl

  module _ {v : Verdict} (e : v ≡ offset_verdict t n b) where
    pub offset-refused : {r : Refusal} → v ≡ Err r → Err r ≡ first (offset_rules t n b)
    unfolding offset_verdict
    offset-refused q = sym q ∙ e

    pub offset-admitted : v ≡ Ok tt → Ok tt ≡ first (offset_rules t n b)
    unfolding offset_verdict
    offset-admitted q = sym q ∙ e

pub ready : (t : List ℕ) (n b : ℕ) {v : Verdict} → v ≡ offset_verdict t n b → v ≡ Ok tt → Ready t b
ready t n b e q =
    let w = both-admitted t n b (sym q ∙ e) in
    let z = admitted-sized t n refl w.0 in
    ((z.0, z.1, few-offsets t n b w.1), admitted-ordered t n refl w.0)
