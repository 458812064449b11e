-- The reading may leave off at the first token that starts after the offset: where tokens start in order, no later token counts.
--     sweep-late      a sweep of tokens over records none of whose tokens counts changes nothing
--     ordered-late    from a token that starts after the offset on, every token does, where tokens start in order
--     swept-late      there what is found is what was found so far
--     swept-past      so at a token of such a stretch
-- Assumes nothing.
use Prim.Native.Nat.{ℕ, zero, suc, ◌+◌, ◌-◌, ◌≤◌, ◌<◌}
use mathlib.Core.Path.{◌≡◌, refl, sym, ◌∙◌}
use mathlib.Core.Bool.{Bool, true, false, cond}
use mathlib.Core.List.{List, [], ◌∷◌}
use mathlib.Core.Logic.{⊎_elim}
use native.Mathlib.Omega.{arith}
use borrow.Author.Tests.{lt-leb, le-leb, lt-ltb, le-ltb, leb-false}
use Rattle.records.specs.declared.record.Rec.{Rec}
use Rattle.records.specs.Kinds.{is_node, last_node}
use Rattle.records.specs.Table.{count, kind_at, start_at, record_at, run, from, records}
use Rattle.forest.specs.Forest.{kids}
use Rattle.forest.specs.inner.Scan.{of_tokens}
use Rattle.forest.specs.inner.Ordered.{Ordered}
use Rattle.lent.proofs.Cases.{lt-or-le}
use Rattle.forest.proofs.Laws.{node-or-token}
use Rattle.forest.proofs.Scans.{sweep}
use Rattle.tokens.specs.declared.sought.Sought.{Sought}
use Rattle.tokens.specs.declared.sought.Sought.TheVariants.{LastToken, ArgumentIndex}
use Rattle.tokens.specs.inner.Turns.{Findings, counts_for, swept}
use Rattle.readings.proofs.Sweeping.{seeking, Reads}

same : {S : Type 0} {s : S} (b : Bool) (x y : S) → x ≡ s → y ≡ s → cond b x y ≡ s
same true x y p q = p
same false x y p q = q

-- no token of a list counts
unfoldable pub Late : (Rec → Bool) → List Rec → Type 0
Late counts [] = Unit
Late counts (r ∷ rs) = (last_node < r.kind → counts r ≡ false) × Late counts rs

module _ {S : Type 0} (step : S → Rec → S) (counts enters : Rec → Bool) where
  pub sweep-late : (rs : List Rec) (k m : ℕ) (s : S) → Late counts rs → sweep (of_tokens step counts enters) k m s rs ≡ s
  unfolding sweep Late
  sweep-late [] k m s l = refl
  sweep-late (r ∷ rs) k m s l =
      ⊎_elim
      (λ h. rw (lt-ltb r.depth k h))
      (λ h.
      ⊎_elim
      (λ g. rw (le-ltb r.depth k h, lt-ltb m r.depth g) (sweep-late rs k m s l.1))
      (λ g.
      ⊎_elim
      (λ n.
      rw (le-ltb r.depth k h, le-ltb m r.depth g, le-leb r.kind last_node n)
      (same (enters r) _ _ (sweep-late rs k (r.depth + 1) s l.1) (sweep-late rs k r.depth s l.1)))
      (λ n. rw (le-ltb r.depth k h, le-ltb m r.depth g, lt-leb r.kind last_node n, l.0 n) (sweep-late rs k r.depth s l.1))
      (node-or-token r.kind))
      (lt-or-le m r.depth))
      (lt-or-le r.depth k)

-- every token of t from record i on starts after the offset
abbrev pub LateFrom : ℕ → List ℕ → ℕ → Type 0
LateFrom o t i = (j : ℕ) → i ≤ j → j < count t → last_node < kind_at t j → o < start_at t j

pub ordered-late : {t : List ℕ} {o i : ℕ} → Ordered t → last_node < kind_at t i → o < start_at t i → LateFrom o t i
ordered-late {t} {o} {i} y k s j p q g =
    ⊎_elim
    (λ l. omega (arith, y.starts i j l q k g))
    (λ (l : j ≤ i). let e : i ≡ j = omega arith in rw (← e) s)
    (lt-or-le i j)

-- a token that starts after the offset does not count, whatever is sought
not-counted : (x : Sought) (o k s : ℕ) → o < s → counts_for x o k s ≡ false
unfolding counts_for
not-counted LastToken o k s h = rw (lt-leb s o h)
not-counted ArgumentIndex o k s h = le-ltb s o (omega arith)

pub late-run : (x : Sought) (o : ℕ) (t : List ℕ) (base i n : ℕ) → i + n ≤ count t → LateFrom o t i
    → Late (λ r. counts_for x o r.kind r.start) (run t base i n)
unfolding run record_at Late
late-run x o t base i zero h l = tt
late-run x o t base i (suc n) h l =
    ((λ k. not-counted x o (kind_at t i) (start_at t i) (l i (omega arith) (omega arith) k)), late-run x o t base (i + 1) n (omega arith) (λ j p q k. l j (omega arith) q k))

pub swept-late : {x : Sought} {o : ℕ} {t : List ℕ} {k m i : ℕ} {w : Findings} → Reads x o t k m i w → i ≤ count t → LateFrom o t i
    → (base : ℕ) → w ≡ swept x o (kids (records base t))
unfolding from seeking
swept-late {x} {o} {t} {k} {m} {i} {w} s h l base =
    sym (sweep-late _ _ _ (run t base i (count t - i)) k m w (late-run x o t base i (count t - i) (omega arith) l)) ∙ (s.left.at base).left

pub swept-past : {x : Sought} {o : ℕ} {t : List ℕ} {k m i : ℕ} {w : Findings} {kind start : ℕ} {n : Bool} → Reads x o t k m i w → Ordered t → i < count t
    → kind ≡ kind_at t i → start ≡ start_at t i → n ≡ is_node kind → n ≡ false → o < start → (base : ℕ) → w ≡ swept x o (kids (records base t))
swept-past {x} {o} {t} {k} {m} {i} {w} {kind} s y h ek es en g p =
    swept-late s (omega arith) (ordered-late y (rw (← ek) (leb-false kind last_node (sym en ∙ g))) (omega arith))
