-- An input is told by its first 37,899 bytes: a longer one has a fault before them, and it is the same fault.
--     form-same       the first line of a text and of its beginning are both of a form, or neither
--     records-same    so the records' lines of both break one rule
--     records-few     lines of records that break none are short
--     enough          THE THEOREM
-- Assumes nothing.
use Prim.Native.Nat.{ℕ, zero, suc, ◌+◌, ◌-◌, ◌*◌, ◌%◌, ◌≤◌, ◌<◌}
use mathlib.Core.Path.{◌≡◌, refl, sym, ap, ◌∙◌}
use mathlib.Core.Logic.{⊎_elim}
use mathlib.Core.Bool.{Bool, true, false, cond, not, ◌&&◌, ◌||◌, or-true}
use mathlib.Core.List.{List, [], ◌∷◌}
use native.Mathlib.Omega.{arith}
use borrow.Author.Tests.{ne_eqb, lt-ltb, le-ltb, ltb-true, ltb-false}
use lib.Dec.{eqb, ltb, leb}
use lib.ListN.{length, take, drop, length-drop}
use lib.Seq.{length-take-le, take_all, take-take, take-nil}
use Rattle.std.specs.Prelude.{Ok, Err}
use Rattle.lent.specs.declared.refusal.Condition.TheVariants.{BadLine}
use Rattle.lent.specs.declared.refusal.Refusal.{Refusal}
use Rattle.lent.specs.Verdicts.{first, Verdict, refused, number_of}
use Rattle.lent.proofs.Cases.{lt-or-le, both}
use Rattle.lines.specs.Lines.{Line, lf, lines, all_digits, is_hex, is_source, is_numbers, most_bytes, most_lines, offset_digits, record_digits, last_line, record_rules, frame_rules}
use Rattle.print.specs.Printed.{refusal_line}
use Rattle.report.specs.Output.{unless_refused}
use Rattle.frame.specs.Glance.{replied_to, glanced}
use Rattle.lines.specs.inner.Reading.{line_span, line_to}
use Rattle.frame.specs.Enough.{input_room, Enough}
use Rattle.report.proofs.Answers.{never_both}
use Rattle.lines.proofs.Reading.{first-line, first-faulty, lines-behind, lines-some, drop-two, source-unended, numbers-unended, source-short, numbers-long}

clash : {r : Refusal} → ◌≡◌ {A = Verdict} (Ok tt) (Err r) → ⊥
clash q = never_both q refl

untrue : {b : Bool} → b ≡ true → b ≡ false → ⊥
untrue p q = let z : ◌≡◌ {A = ℕ} 0 1 = cc in omega arith

-- ---- the first line of a text's beginning

span-most : (bs : List ℕ) → line_span bs ≤ length bs
unfolding line_span
span-most [] = omega arith
span-most (b ∷ bs) = go (eqb b lf) refl (span-most bs)
  where
    go : (t : Bool) → eqb b lf ≡ t → line_span bs ≤ length bs → line_span (b ∷ bs) ≤ length (b ∷ bs)
    go true e r = rw e (omega arith)
    go false e r = rw e (omega arith)

span-within : (k : ℕ) (bs : List ℕ) → line_span bs < k → line_span (take k bs) ≡ line_span bs
unfolding line_span
span-within zero bs h = absurd (omega arith)
span-within (suc k) [] h = refl
span-within (suc k) (b ∷ bs) h = go (eqb b lf) refl (span-within k bs)
  where
    go : (t : Bool) → eqb b lf ≡ t → (line_span bs < k → line_span (take k bs) ≡ line_span bs) → line_span (b ∷ take k bs) ≡ line_span (b ∷ bs)
    go true e r = rw e
    go false e r = rw (e, r (omega (arith, rw e at h)))

span-past : (k : ℕ) (bs : List ℕ) → k ≤ line_span bs → line_span (take k bs) ≡ k
unfolding line_span
span-past zero bs h = refl
span-past (suc k) [] h = absurd (omega arith)
span-past (suc k) (b ∷ bs) h = go (eqb b lf) refl (span-past k bs)
  where
    go : (t : Bool) → eqb b lf ≡ t → (k ≤ line_span bs → line_span (take k bs) ≡ k) → line_span (b ∷ take k bs) ≡ suc k
    go true e r = absurd (omega (arith, rw e at h))
    go false e r = rw (e, r (omega (arith, rw e at h)))

drop-take : (n k : ℕ) (l : List ℕ) → drop n (take k l) ≡ take (k - n) (drop n l)
drop-take zero k l = let e : k - 0 ≡ k = omega arith in rw e
drop-take (suc n) zero l = let e : 0 - suc n ≡ 0 = omega arith in rw e
drop-take (suc n) (suc k) [] = sym (take-nil (suc k - suc n))
drop-take (suc n) (suc k) (x ∷ l) = let e : suc k - suc n ≡ k - n = omega arith in rw e (drop-take n k l)

-- it ends in both, or in neither
ended_same : (s k : ℕ) (bs : List ℕ) → s < k → ltb s (length (take k bs)) ≡ ltb s (length bs)
ended_same s k bs h =
    ⊎_elim
    (λ (q : k < length bs). rw (length-take-le k bs (omega arith), lt-ltb s k h, lt-ltb s (length bs) (omega arith)))
    (λ (q : length bs ≤ k). rw (take_all k bs q))
    (lt-or-le k (length bs))

line-within : (k : ℕ) (bs : List ℕ) → line_span bs < k → line_to (take k bs) (line_span (take k bs)) ≡ line_to bs (line_span bs)
line-within k bs h = rw (span-within k bs h, take-take (line_span bs) k bs (omega arith), ended_same (line_span bs) k bs h)

-- a form that a line without its LF does not have, nor one of more than `most` bytes
module _ (form : Line → Bool) (most : ℕ) (short : (l : Line) → form l ≡ true → length l.bytes ≤ most) (ends : (l : Line) → form l ≡ true → l.ended ≡ true) where
  long-not : (l : Line) → most < length l.bytes → form l ≡ false
  long-not l h = go (form l) refl
    where
      go : (t : Bool) → form l ≡ t → form l ≡ false
      go true e = absurd (omega (arith, short l e))
      go false e = e

  open-not : (l : Line) → l.ended ≡ false → form l ≡ false
  open-not l h = go (form l) refl
    where
      go : (t : Bool) → form l ≡ t → form l ≡ false
      go true e = absurd (untrue (ends l e) h)
      go false e = e

  form-same : (k : ℕ) (bs : List ℕ) → most < k → form (line_to (take k bs) (line_span (take k bs))) ≡ form (line_to bs (line_span bs))
  form-same k bs h =
      ⊎_elim
      (λ (q : line_span bs < k). ap form (line-within k bs q))
      (λ (q : k ≤ line_span bs).
      let l : length (take k bs) ≡ k = length-take-le k bs (omega (arith, span-most bs)) in
      open-not (line_to (take k bs) (line_span (take k bs))) (le-ltb (line_span (take k bs)) (length (take k bs)) (omega (arith, span-past k bs q)))
      ∙ sym (long-not (line_to bs (line_span bs)) (omega (arith, length-take-le (line_span bs) bs (span-most bs)))))
      (lt-or-le (line_span bs) k)

  form-span : (bs : List ℕ) → form (line_to bs (line_span bs)) ≡ true → line_span bs ≤ most
  form-span bs e = omega (arith, short (line_to bs (line_span bs)) e, length-take-le (line_span bs) bs (span-most bs))

  -- what is behind such a line, of a text's beginning
  rest-same : (k : ℕ) (bs : List ℕ) → most < k → form (line_to bs (line_span bs)) ≡ true
      → lines (drop (line_span (take k bs) + 1) (take k bs)) ≡ lines (take (k - (line_span bs + 1)) (drop (line_span bs + 1) bs))
  rest-same k bs h e = rw (span-within k bs (omega (arith, form-span bs e)), drop-take (line_span bs + 1) k bs)

hex-ended : (l : Line) → is_hex l ≡ true → l.ended ≡ true
unfolding is_hex
hex-ended l e = (both l.ended (all_digits l.bytes) e).0

numbers-ended : (n : ℕ) (l : Line) → is_numbers n l ≡ true → l.ended ≡ true
unfolding is_numbers
numbers-ended n l e = hex-ended l (both (is_hex l) (eqb (length l.bytes) n) e).0

source-ended : (l : Line) → is_source l ≡ true → l.ended ≡ true
unfolding is_source
source-ended l e =
    hex-ended l (both (is_hex l) (eqb (length l.bytes % 2) 0) (both (is_hex l && eqb (length l.bytes % 2) 0) (leb (length l.bytes) 8192) e).0).0

numbers-short : (n : ℕ) (l : Line) → is_numbers n l ≡ true → length l.bytes ≤ n
numbers-short n l e = omega (arith, numbers-long n l e)

-- ---- the records' lines

abbrev good : List ℕ → Bool
good bs = is_numbers record_digits (line_to bs (line_span bs))

-- the first rule of a text's records, and then the others
records-turn : (i : ℕ) (bs : List ℕ) → 0 < length bs
    → first (record_rules i (lines bs)) ≡ cond (ltb last_line i || not (good bs)) (refused BadLine i) (first (record_rules (suc i) (lines (drop (line_span bs + 1) bs))))
records-turn i bs h = rw (first-line bs h) (unfold record_rules in refl)

too_many : (i : ℕ) (bs : List ℕ) → 0 < length bs → last_line < i → first (record_rules i (lines bs)) ≡ refused BadLine i
too_many i bs h g = records-turn i bs h ∙ rw (lt-ltb last_line i g)

-- none may follow
records-last : (i k : ℕ) (bs : List ℕ) → last_line < i → 0 < k → first (record_rules i (lines (take k bs))) ≡ first (record_rules i (lines bs))
records-last i k [] g h = rw (take-nil {A = ℕ} k)
records-last i zero (b ∷ bs) g h = absurd (omega arith)
records-last i (suc k) (b ∷ bs) g h = too_many i (b ∷ take k bs) (omega arith) g ∙ sym (too_many i (b ∷ bs) (omega arith) g)

-- how many bytes a record's line takes with its LF, and those of all records
abbrev record_line : ℕ
record_line = record_digits + 1

abbrev record_lines : ℕ
record_lines = most_lines * record_line

module _ (i : ℕ) where
  abbrev Same : ℕ → List ℕ → Type 0
  Same k bs = first (record_rules i (lines (take k bs))) ≡ first (record_rules i (lines bs))

  -- one line, and then the others
  records-step : (k : ℕ) (bs : List ℕ) → record_digits < k
      → (line_span bs ≤ record_digits → first (record_rules (suc i) (lines (take (k - (line_span bs + 1)) (drop (line_span bs + 1) bs)))) ≡ first (record_rules (suc i) (lines (drop (line_span bs + 1) bs))))
      → Same k bs
  records-step k [] h r = rw (take-nil {A = ℕ} k)
  records-step zero (b ∷ bs) h r = absurd (omega arith)
  records-step (suc k) (b ∷ bs) h r = go (good (b ∷ bs)) refl
    where
      all : List ℕ
      all = b ∷ bs

      same : good (take (suc k) all) ≡ good all
      same = form-same (is_numbers record_digits) record_digits (numbers-short record_digits) (numbers-ended record_digits) (suc k) all h

      go : (t : Bool) → good all ≡ t → Same (suc k) all
      go true q =
          records-turn i (take (suc k) all) (omega arith)
          ∙ rw (same, rest-same (is_numbers record_digits) record_digits (numbers-short record_digits) (numbers-ended record_digits) (suc k) all h q, r (form-span (is_numbers record_digits) record_digits (numbers-short record_digits) (numbers-ended record_digits) all q))
          (sym (records-turn i all (omega arith)))
      go false q =
          records-turn i (take (suc k) all) (omega arith) ∙ rw (same, q, or-true (ltb last_line i)) (sym (records-turn i all (omega arith) ∙ rw (q, or-true (ltb last_line i))))

records-same : (m i k : ℕ) (bs : List ℕ) → i + m ≡ 1027 → record_line * m < k → Same i k bs
records-same zero i k bs e h = records-last i k bs (omega arith) (omega arith)
records-same (suc m) i k bs e h =
    records-step i k bs (omega arith) (λ q. records-same m (suc i) (k - (line_span bs + 1)) (drop (line_span bs + 1) bs) (omega arith) (omega arith))

-- lines of records that break no rule are short
few-step : (i : ℕ) (bs : List ℕ) → 0 < length bs → Ok tt ≡ first (record_rules i (lines bs))
    → (i ≤ last_line) × (length bs ≡ record_line + length (drop (line_span bs + 1) bs)) × (Ok tt ≡ first (record_rules (suc i) (lines (drop (line_span bs + 1) bs))))
few-step i bs h a = go (ltb last_line i) refl (good bs) refl
  where
    turned : Ok tt ≡ cond (ltb last_line i || not (good bs)) (refused BadLine i) (first (record_rules (suc i) (lines (drop (line_span bs + 1) bs))))
    turned = a ∙ records-turn i bs h

    go : (t : Bool) → ltb last_line i ≡ t → (g : Bool) → good bs ≡ g
        → (i ≤ last_line) × (length bs ≡ record_line + length (drop (line_span bs + 1) bs)) × (Ok tt ≡ first (record_rules (suc i) (lines (drop (line_span bs + 1) bs))))
    go true e g q = absurd (clash (rw e at turned))
    go false e false q = absurd (clash (rw (e, q) at turned))
    go false e true q =
        let n : length (take (line_span bs) bs) ≡ record_digits = numbers-long record_digits (line_to bs (line_span bs)) q in
        let l : length (take (line_span bs) bs) ≡ line_span bs = length-take-le (line_span bs) bs (span-most bs) in
        let w : line_span bs < length bs = ltb-true (line_span bs) (length bs) (numbers-ended record_digits (line_to bs (line_span bs)) q) in
        (ltb-false last_line i e, omega (arith, length-drop (line_span bs + 1) bs), rw (e, q) at turned)

records-few : (m i : ℕ) (bs : List ℕ) → i + m ≡ 1027 → Ok tt ≡ first (record_rules i (lines bs)) → length bs ≤ record_line * m
records-few zero i bs e a =
    ⊎_elim
    (λ (h : 0 < length bs). absurd (omega (arith, (few-step i bs h a).0)))
    (λ (h : length bs ≤ 0). omega arith)
    (lt-or-le 0 (length bs))
records-few (suc m) i bs e a =
    ⊎_elim
    (λ (h : 0 < length bs).
    let w = few-step i bs h a in
    omega (arith, w.1, records-few m (suc i) (drop (line_span bs + 1) bs) (omega arith) w.2))
    (λ (h : length bs ≤ 0). omega arith)
    (lt-or-le 0 (length bs))

-- ---- the parts of a frame, from the last on

abbrev after_offset : List ℕ → Verdict
after_offset bs = cond (eqb (length (lines bs)) 0) (refused BadLine 3) (first (record_rules 3 (lines bs)))

abbrev after_source : List ℕ → Verdict
after_source bs = cond (not (is_numbers offset_digits (line_to bs (line_span bs)))) (refused BadLine 2) (after_offset (drop (line_span bs + 1) bs))

abbrev whole : List ℕ → Verdict
whole bs = cond (not (is_source (line_to bs (line_span bs)))) (refused BadLine 1) (after_source (drop (line_span bs + 1) bs))

framed : (bs : List ℕ) → first (frame_rules (lines bs)) ≡ whole bs
framed bs =
    rw (first-faulty is_source source-unended bs, drop-two (lines bs), lines-behind bs, first-faulty (is_numbers offset_digits) (numbers-unended offset_digits) (drop (line_span bs + 1) bs), lines-behind (drop (line_span bs + 1) bs))

after-offset-same : (k : ℕ) (bs : List ℕ) → record_lines < k → after_offset (take k bs) ≡ after_offset bs
after-offset-same k [] h = rw (take-nil {A = ℕ} k)
after-offset-same zero (b ∷ bs) h = absurd (omega arith)
after-offset-same (suc k) (b ∷ bs) h =
    rw (
      ne_eqb (length (lines (b ∷ take k bs))) 0 (λ z. omega (arith, lines-some (b ∷ take k bs) (omega arith))),
      ne_eqb (length (lines (b ∷ bs))) 0 (λ z. omega (arith, lines-some (b ∷ bs) (omega arith))),
    )
    (records-same 1024 3 (suc k) (b ∷ bs) refl (omega arith))

-- a line of a form, and then what is behind it
module _ (form : Line → Bool) (most : ℕ) (short : (l : Line) → form l ≡ true → length l.bytes ≤ most) (ends : (l : Line) → form l ≡ true → l.ended ≡ true)
    (refusal : Verdict) (then : List ℕ → Verdict) where
  abbrev turn : List ℕ → Verdict
  turn bs = cond (not (form (line_to bs (line_span bs)))) refusal (then (drop (line_span bs + 1) bs))

  turn-same : (k : ℕ) (bs : List ℕ) → most < k → ((k' : ℕ) (bs' : List ℕ) → k ≤ most + 1 + k' → then (take k' bs') ≡ then bs') → turn (take k bs) ≡ turn bs
  turn-same k bs h r = go (form (line_to bs (line_span bs))) refl
    where
      same : form (line_to (take k bs) (line_span (take k bs))) ≡ form (line_to bs (line_span bs))
      same = form-same form most short ends k bs h

      go : (t : Bool) → form (line_to bs (line_span bs)) ≡ t → turn (take k bs) ≡ turn bs
      go true q =
          let s : line_span bs ≤ most = form-span form most short ends bs q in
          rw (same, q, span-within k bs (omega arith), drop-take (line_span bs + 1) k bs) (r (k - (line_span bs + 1)) (drop (line_span bs + 1) bs) (omega arith))
      go false q = rw (same, q)

  turn-few : (n : ℕ) (bs : List ℕ) → (Ok tt ≡ refusal → ⊥) → ((bs' : List ℕ) → Ok tt ≡ then bs' → length bs' ≤ n) → Ok tt ≡ turn bs → length bs ≤ most + 1 + n
  turn-few n bs never r a = go (form (line_to bs (line_span bs))) refl
    where
      go : (t : Bool) → form (line_to bs (line_span bs)) ≡ t → length bs ≤ most + 1 + n
      go true q = omega (arith, form-span form most short ends bs q, length-drop (line_span bs + 1) bs, r (drop (line_span bs + 1) bs) (rw q at a))
      go false q = absurd (never (rw q at a))

after-source-same : (k : ℕ) (bs : List ℕ) → (offset_digits + 1 + record_lines) < k → after_source (take k bs) ≡ after_source bs
after-source-same k bs h =
    turn-same (is_numbers offset_digits) offset_digits (numbers-short offset_digits) (numbers-ended offset_digits) (refused BadLine 2) after_offset k bs (omega arith)
    (λ k' bs' g. after-offset-same k' bs' (omega arith))

whole_same : (bs : List ℕ) → whole (take input_room bs) ≡ whole bs
whole_same bs =
    turn-same is_source 8192 source-short source-ended (refused BadLine 1) after_source input_room bs (omega arith) (λ k' bs' g. after-source-same k' bs' (omega arith))

after-offset-few : (bs : List ℕ) → Ok tt ≡ after_offset bs → length bs ≤ record_lines
after-offset-few bs a = go (eqb (length (lines bs)) 0) refl
  where
    go : (t : Bool) → eqb (length (lines bs)) 0 ≡ t → length bs ≤ record_lines
    go true e = absurd (clash (rw e at a))
    go false e = records-few 1024 3 bs refl (rw e at a)

whole-few : (bs : List ℕ) → Ok tt ≡ whole bs → length bs ≤ (2 * most_bytes + 1 + (offset_digits + 1 + record_lines))
whole-few bs a =
    turn-few is_source 8192 source-short source-ended (refused BadLine 1) after_source (offset_digits + 1 + record_lines) bs clash
    (λ bs' q. turn-few (is_numbers offset_digits) offset_digits (numbers-short offset_digits) (numbers-ended offset_digits) (refused BadLine 2) after_offset record_lines bs' clash after-offset-few q)
    a

-- THE THEOREM
pub enough : Enough
enough input =
    ⊎_elim
    (λ (h : input_room < length input). go h (whole input) refl)
    (λ (h : length input ≤ input_room). rw (take_all input_room input h))
    (lt-or-le input_room (length input))
  where
    told : (bs : List ℕ) {r : Refusal} → whole bs ≡ Err r → glanced bs ≡ refusal_line (number_of r.condition) r.detail
    told bs e = (unfold replied_to unless_refused in rw (framed bs, e))

    go : input_room < length input → (v : Verdict) → whole input ≡ v → glanced (take input_room input) ≡ glanced input
    go h (Ok tt) e = absurd (omega (arith, whole-few input (sym e)))
    go h (Err r) e = told (take input_room input) (whole_same input ∙ e) ∙ sym (told input e)
