-- Lines, digits and numbers, as the code reads them.
--     digits-all          all bytes are digits
--     span-place          the end of the first line
--     first-line          the lines of a text are its first line and those behind it
--     number-next, ..     a number, digit by digit
--     pairs_next, ..      the source, two digits at a time
--     Reading             the records, line by line
--     frame-..            the three parts of a frame, and refusal 9
-- Assumes nothing.
use Prim.Native.Nat.{ℕ, zero, suc, ◌+◌, ◌-◌, ◌*◌, ◌/◌, ◌%◌, ◌^◌, ◌≤◌, ◌<◌}
use mathlib.Core.Path.{◌≡◌, refl, sym, ap, ◌∙◌}
use mathlib.Core.Bool.{Bool, true, false, cond, not, ◌&&◌, ◌||◌, and-false}
use mathlib.Core.List.{List, [], ◌∷◌}
use native.Mathlib.Numerals.{add-one}
use native.Mathlib.Omega.{arith}
use native.Mathlib.Nat.{pow-suc, pow-le-pow_right}
use borrow.Author.Tests.{ne_eqb, ltb-true, ltb-false, lt-ltb, le-ltb, le-leb, lt-leb, leb-true, eqb-true, eqb-false}
use lib.Dec.{eqb, ltb, leb}
use lib.ListN.{length, get_or, take, drop, set, length-drop, drop_of_length-le}
use Rattle.lent.specs.declared.refusal.Condition.TheVariants.{BadLine}
use Rattle.lent.specs.declared.refusal.Refusal.{Refusal}
use Rattle.std.specs.List.{list_all, position_or_len}
use lib.Seq.{sets, sets-eq, drop-cons, take_at}
use Rattle.records.specs.Table.{record_bytes}
use Rattle.lent.specs.Verdicts.{first, refused}
use Rattle.lent.specs.Numbers.{number_bytes}
use Rattle.lent.specs.Lists.{list_bytes, put, fill}
use Rattle.lent.proofs.Cases.{both}
use Rattle.lent.proofs.Writes.{fill-sets, length-wide}
use Rattle.text.specs.Text.{text}
use Rattle.lines.specs.Lines.{Line, line, lf, begun, lines, is_digit, value, all_digits, is_hex, is_source, is_numbers, offset_digits, record_digits, last_line, most_bytes, most_lines, faulty, record_rules, frame_rules}
use Rattle.lines.specs.Frame.{spelt, hex_number, pairs, first_bytes, source_of, offset_of, fields_of, record_row, table_of}
use Rattle.lines.specs.inner.Reading.{line_span, line_to, table_room, ReadRecords, ReadFrame}
use Rattle.std.specs.Prelude.{Option, Some, None, Result, Ok, Err}
use Rattle.std.specs.Option.{unwrap_or}
use Rattle.std.proofs.lemmas.List.Sums.{prefix_len-le-length}
use Rattle.lines.specs.declared.input.Frame.{Frame}
use Rattle.std.specs.Result.{IsErrAnd}

-- a list from byte i on: that byte, and what is behind it
pub cut : (l : List ℕ) (i : ℕ) → i < length l → drop i l ≡ get_or l i 0 ∷ drop (i + 1) l
cut l i h = rw add-one (drop-cons l i 0 h)

take-most : (n : ℕ) (l : List ℕ) → length (take n l) ≤ n
take-most zero l = omega arith
take-most (suc n) [] = omega arith
take-most (suc n) (x ∷ l) = omega (arith, take-most n l)

pub text-most : (l : List ℕ) (s e : ℕ) → length (text l s e) ≤ e - s
unfolding text
text-most l s e = take-most (e - s) (drop s l)

-- a test that fails, and one that does not
pub fails : (b : Bool) → not b ≡ true → b ≡ false
fails true e = absurd (let z : ◌≡◌ {A = ℕ} 0 1 = cc in omega arith)
fails false e = refl

pub passes : (b : Bool) → not b ≡ false → b ≡ true
passes true e = refl
passes false e = absurd (let z : ◌≡◌ {A = ℕ} 0 1 = cc in omega arith)

-- what `is_empty` says of a text's length
pub some-left : (l : List ℕ) {b : Bool} → b ≡ eqb (length l) 0 → b ≡ false → 0 < length l
some-left l e q = let z = eqb-false (length l) 0 (sym e ∙ q) in omega arith

pub none-left : (l : List ℕ) {b : Bool} → b ≡ eqb (length l) 0 → b ≡ true → length l ≡ 0
none-left l e q = eqb-true (length l) 0 (sym e ∙ q)

-- ---- digits

-- the value of a byte, by its place among the digits
pub value-decimal : (b : ℕ) → 48 ≤ b → b ≤ 57 → (b - 48 ≡ value b) × (b - 48 < 16)
unfolding value
value-decimal b h g = (rw (le-leb 48 b h, le-leb b 57 g), omega arith)

pub value-letter : (b : ℕ) → 97 ≤ b → b ≤ 102 → (b - 97 + 10 ≡ value b) × (b - 97 + 10 < 16)
unfolding value
value-letter b h g = (rw (lt-leb b 57 (omega arith), and-false, le-leb 97 b h, le-leb b 102 g) (omega arith), omega arith)

pub value_low : (b : ℕ) → b < 48 → (0 ≡ value b) × (0 < 16)
unfolding value
value_low b h = (rw (lt-leb 48 b h, lt-leb 97 b (omega arith)), omega arith)

pub value-between : (b : ℕ) → 57 < b → b < 97 → (0 ≡ value b) × (0 < 16)
unfolding value
value-between b h g = (rw (lt-leb b 57 h, and-false, lt-leb 97 b g), omega arith)

pub value-high : (b : ℕ) → 102 < b → (0 ≡ value b) × (0 < 16)
unfolding value
value-high b h = (rw (lt-leb b 57 (omega arith), and-false, lt-leb b 102 h, and-false), omega arith)

pub digits-all : (bs : List ℕ) → list_all is_digit bs ≡ all_digits bs
unfolding all_digits
digits-all [] = refl
digits-all (b ∷ bs) = rw (digits-all bs)

-- ---- the end of a line

-- a byte is LF
abbrev pub is_lf : ℕ → Bool
is_lf b = eqb b lf

span-place : (bs : List ℕ) → position_or_len is_lf bs ≡ line_span bs
unfolding line_span
span-place [] = refl
span-place (b ∷ bs) = go (eqb b lf) refl (span-place bs)
  where
    go : (t : Bool) → eqb b lf ≡ t → position_or_len is_lf bs ≡ line_span bs → position_or_len is_lf (b ∷ bs) ≡ line_span (b ∷ bs)
    go true e on = rw e
    go false e on = rw (e, on) (omega arith)

pub span-or-end : (bs : List ℕ) {r : Option ℕ} {n : ℕ} → r ≡ cond (ltb (position_or_len is_lf bs) (length bs)) (Some (position_or_len is_lf bs)) None
    → n ≡ unwrap_or r (length bs) → (n ≡ line_span bs) × (n ≤ length bs)
span-or-end bs {r} {n} e q = go (ltb (position_or_len is_lf bs) (length bs)) refl (prefix_len-le-length (λ b. not (is_lf b)) bs)
  where
    go : (t : Bool) → ltb (position_or_len is_lf bs) (length bs) ≡ t → position_or_len is_lf bs ≤ length bs → (n ≡ line_span bs) × (n ≤ length bs)
    go true f h = let v : n ≡ position_or_len is_lf bs = q ∙ rw (e, f) in (v ∙ span-place bs, omega arith)
    go false f h =
        let v : n ≡ length bs = q ∙ rw (e, f) in
        let z = ltb-false _ _ f in
        let l : n ≡ position_or_len is_lf bs = omega arith in
        (l ∙ span-place bs, omega arith)

-- ---- the lines of a text

less-suc : (a b : ℕ) → ltb (suc a) (suc b) ≡ ltb a b
less-suc a b = go (ltb a b) refl
  where
    go : (t : Bool) → ltb a b ≡ t → ltb (suc a) (suc b) ≡ t
    go true e = lt-ltb (suc a) (suc b) (omega (arith, ltb-true a b e))
    go false e = le-ltb (suc a) (suc b) (omega (arith, ltb-false a b e))

begun-line : (bs : List ℕ) → 0 < length bs → lines bs ≡ line_to bs (line_span bs) ∷ lines (drop (suc (line_span bs)) bs)
unfolding lines line_span begun
begun-line [] h = absurd (omega arith)
begun-line (b ∷ []) h = go (eqb b lf) refl
  where
    go : (t : Bool) → eqb b lf ≡ t → lines (b ∷ []) ≡ line_to (b ∷ []) (line_span (b ∷ [])) ∷ lines (drop (suc (line_span (b ∷ []))) (b ∷ []))
    go true e = rw e
    go false e = rw e
begun-line (b ∷ x ∷ xs) h = go (eqb b lf) refl (x ∷ xs) (begun-line (x ∷ xs) (omega arith))
  where
    go : (t : Bool) → eqb b lf ≡ t → (more : List ℕ) → lines more ≡ line_to more (line_span more) ∷ lines (drop (suc (line_span more)) more)
        → lines (b ∷ more) ≡ line_to (b ∷ more) (line_span (b ∷ more)) ∷ lines (drop (suc (line_span (b ∷ more))) (b ∷ more))
    go true e more q = rw (e, lt-ltb 0 (length (b ∷ more)) (omega arith))
    go false e more q = rw (e, q, less-suc (line_span more) (length more))

pub first-line : (bs : List ℕ) → 0 < length bs → lines bs ≡ line_to bs (line_span bs) ∷ lines (drop (line_span bs + 1) bs)
first-line bs h = rw (add-one (line_span bs)) (begun-line bs h)

-- the first line as a form sees it that refuses a line without its LF
pub first-faulty : (form : Line → Bool) → form (line [] false) ≡ false → (bs : List ℕ) → faulty form (lines bs) ≡ not (form (line_to bs (line_span bs)))
unfolding lines faulty line_span
first-faulty form h [] = rw h
first-faulty form h (b ∷ bs) = rw (first-line (b ∷ bs) (omega arith))

pub lines-behind : (bs : List ℕ) → drop 1 (lines bs) ≡ lines (drop (line_span bs + 1) bs)
unfolding lines line_span
lines-behind [] = refl
lines-behind (b ∷ bs) = rw (first-line (b ∷ bs) (omega arith))

pub first-bytes-are : (bs : List ℕ) → first_bytes (lines bs) ≡ take (line_span bs) bs
unfolding lines line_span first_bytes
first-bytes-are [] = refl
first-bytes-are (b ∷ bs) = rw (first-line (b ∷ bs) (omega arith))

-- ---- a number

module _ (ds : List ℕ) (i v : ℕ) (so : hex_number ds ≡ spelt v (drop i ds)) where
  pub number-next : i < length ds → {d : ℕ} → d ≡ value (get_or ds i 0) → hex_number ds ≡ spelt (v * 16 + d) (drop (i + 1) ds)
  unfolding spelt
  number-next h e = so ∙ rw (cut ds i h, e)

  pub number-end : length ds ≤ i → v ≡ hex_number ds
  unfolding spelt
  number-end h = sym (so ∙ rw (drop_of_length-le ds h))

-- a digit more: sixteen times as much at most
pub grown : (v d i : ℕ) → v < 16 ^ i → d < 16 → v * 16 + d < 16 ^ (i + 1)
grown v d i h g = rw (add-one i, pow-suc 16 i) (omega arith)

-- seven digits leave room for one more
pub roomy : (v i : ℕ) → v < 16 ^ i → i < 8 → v < 268435456
roomy v i h g = let p : 16 ^ i ≤ 16 ^ 7 = pow-le-pow_right {n = 16} (omega arith) {i = i} {j = 7} (omega arith) in omega arith

-- ---- the source

cut-two : (ds : List ℕ) (i : ℕ) → 2 * i + 1 < length ds → drop (2 * i) ds ≡ get_or ds (2 * i) 0 ∷ get_or ds (2 * i + 1) 0 ∷ drop (2 * (i + 1)) ds
cut-two ds i h =
    let e : 2 * i + 1 + 1 ≡ 2 * (i + 1) = omega arith in
    cut ds (2 * i) (omega arith) ∙ rw (cut ds (2 * i + 1) h, e)

pairs-short : (ds : List ℕ) → length ds ≤ 1 → pairs ds ≡ []
unfolding pairs
pairs-short [] h = refl
pairs-short (a ∷ []) h = refl
pairs-short (a ∷ b ∷ ds) h = absurd (omega arith)

module _ (ds out₀ out : List ℕ) (i : ℕ) (so : sets out i (pairs (drop (2 * i) ds)) ≡ sets out₀ 0 (pairs ds)) where
  pub pairs_next : 2 * i + 1 < length ds → {a b : ℕ} → a ≡ value (get_or ds (2 * i) 0) → b ≡ value (get_or ds (2 * i + 1) 0)
      → sets (set out i (a * 16 + b)) (i + 1) (pairs (drop (2 * (i + 1)) ds)) ≡ sets out₀ 0 (pairs ds)
  unfolding pairs
  pairs_next h p q = rw (p, q, add-one i) (rw (cut-two ds i h, add-one i) at so)

  pub pairs_end : length ds / 2 ≤ i → out ≡ sets out₀ 0 (pairs ds)
  pairs_end h = rw (pairs-short (drop (2 * i) ds) (rw (length-drop (2 * i) ds) (omega arith))) at so

pairs-length : (ds : List ℕ) → length (pairs ds) ≡ length ds / 2
unfolding pairs
pairs-length [] = refl
pairs-length (a ∷ []) = refl
pairs-length (a ∷ b ∷ ds) = omega (arith, pairs-length ds)

-- the source stands in front in its buffer
pub source-front : (ds s : List ℕ) {n : ℕ} → n ≡ length ds → length ds / 2 ≤ length s → take (n / 2) (sets s 0 (pairs ds)) ≡ pairs ds
source-front ds s e h =
    rw (e, sets-eq (pairs ds) s 0 (omega (arith, pairs-length ds))) (take_at (pairs ds) _ (length ds / 2) (pairs-length ds))

-- how long lines of these forms are
pub source-short : (l : Line) → is_source l ≡ true → length l.bytes ≤ 2 * most_bytes
unfolding is_source
source-short l h = leb-true (length l.bytes) (2 * most_bytes) (both (is_hex l && eqb (length l.bytes % 2) 0) (leb (length l.bytes) (2 * most_bytes)) h).1

pub numbers-long : (n : ℕ) (l : Line) → is_numbers n l ≡ true → length l.bytes ≡ n
unfolding is_numbers
numbers-long n l h = eqb-true (length l.bytes) n (both (is_hex l) (eqb (length l.bytes) n) h).1

-- ---- the records

-- n records are read, and the lines `rest` are still to be read into t: as all of them into t₀
pub record Reading (all : List Line) (t₀ : List ℕ) (rest : List Line) (t : List ℕ) (n : ℕ) : Type 0 where
  pub filled : fill record_row t (record_bytes * n) rest ≡ fill record_row t₀ 0 all
  pub counted : n + length rest ≡ length all
  pub ruled : first (record_rules (n + 3) rest) ≡ first (record_rules 3 all)

module _ {all : List Line} {t₀ t : List ℕ} {n : ℕ} (bs : List ℕ) (some : 0 < length bs) (w : Reading all t₀ (lines bs) t n)
    {e : ℕ} (q : e ≡ line_span bs) {b : Bool} (f : b ≡ is_numbers record_digits (line_to bs e)) where
  split : lines bs ≡ line_to bs e ∷ lines (drop (e + 1) bs)
  split = rw q (first-line bs some)

  ruled-so : cond (ltb last_line (n + 3) || not b) (refused BadLine (n + 3)) (first (record_rules (suc (n + 3)) (lines (drop (e + 1) bs)))) ≡ first (record_rules 3 all)
  unfolding record_rules
  ruled-so = rw f (rw split at w.ruled)

  pub reading-faulty : (ltb last_line (n + 3) || not b) ≡ true → refused BadLine (n + 3) ≡ first (record_rules 3 all)
  reading-faulty h = rw h at ruled-so

  pub reading-next : (ltb last_line (n + 3) || not b) ≡ false → {t' rest : List ℕ} → t' ≡ put t (record_bytes * n) (fields_of (take e bs)) → rest ≡ drop (e + 1) bs
      → Reading all t₀ (lines rest) t' (n + 1)
  unfolding fill fields_of
  reading-next h {t'} {rest} p r =
      let s : suc (n + 3) ≡ n + 1 + 3 = omega arith in
      let m : record_bytes * n + number_bytes * length (fields_of (take e bs)) ≡ record_bytes * (n + 1) = omega arith in
      record {
        filled = rw (p, r, ← m) (ap (fill record_row t (record_bytes * n)) (sym split) ∙ w.filled);
        counted = rw r (omega (arith, w.counted, ap length split));
        ruled = rw r (rw (h, s) at ruled-so);
      }

either : (a b : Bool) → (a || b) ≡ false → a ≡ false
either true b e = absurd (let z : ◌≡◌ {A = ℕ} 0 1 = cc in omega arith)
either false b e = refl

-- a record more than are read is not too many
pub reading-few : (n : ℕ) (b : Bool) → (ltb last_line (n + 3) || b) ≡ false → n + 1 ≤ most_lines
reading-few n b h = omega (arith, ltb-false last_line (n + 3) (either (ltb last_line (n + 3)) b h))

row-wide : (l : Line) → number_bytes * length (record_row l) ≡ record_bytes
unfolding fields_of
row-wide l = refl

-- the bytes of so many records stand in front in their buffer
front : (ls : List Line) (t₀ : List ℕ) (n : ℕ) → n ≡ length ls → record_bytes * n ≤ length t₀ → take (record_bytes * n) (fill record_row t₀ 0 ls) ≡ list_bytes record_row ls
front ls t₀ n e h =
    let l : length (list_bytes record_row ls) ≡ record_bytes * n = omega (arith, length-wide record_row record_bytes row-wide ls) in
    rw (fill-sets record_row t₀ 0 ls (omega arith), sets-eq (list_bytes record_row ls) t₀ 0 (omega arith)) (take_at (list_bytes record_row ls) _ (record_bytes * n) l)

pub reading-end : (ls : List Line) (t₀ t : List ℕ) (n : ℕ) (bs : List ℕ) → length bs ≡ 0 → length t₀ ≡ table_room → n ≤ most_lines → Reading ls t₀ (lines bs) t n
    → ReadRecords ls t (Ok n)
unfolding ReadRecords lines record_rules fill
reading-end ls t₀ t n [] z l h w =
    let e : n ≡ length ls = omega (arith, w.counted) in
    (w.ruled, e, h, rw w.filled (front ls t₀ n e (omega arith)))
reading-end ls t₀ t n (b ∷ bs) z l h w = absurd (omega arith)

module _ (ls : List Line) (t : List ℕ) {r : Result ℕ Refusal} where
  pub records-faulty : {b : Refusal} → r ≡ Err b → ReadRecords ls t r → Err b ≡ first (record_rules 3 ls)
  unfolding ReadRecords
  records-faulty e h = rw e at h

  pub records-read : {n : ℕ} → r ≡ Ok n → ReadRecords ls t r
      → (Ok tt ≡ first (record_rules 3 ls)) × (n ≡ length ls) × (n ≤ most_lines) × (take (record_bytes * n) t ≡ list_bytes record_row ls)
  unfolding ReadRecords
  records-read e h = rw e at h

-- ---- a frame

-- a faulty line of a record that is passed on
pub frame-faulty : (ls : List Line) (s t : List ℕ) (r : Result Frame Refusal) {b : Refusal} → IsErrAnd r (λ x. x ≡ b) → Err b ≡ first (frame_rules ls)
    → ReadFrame ls s t r
unfolding ReadFrame
frame-faulty ls s t (Err x) e h = rw e h
frame-faulty ls s t (Ok f) e h = absurd e

pub lines-some : (bs : List ℕ) → 0 < length bs → 0 < length (lines bs)
lines-some bs h = rw (first-line bs h) (omega arith)

pub drop-two : (ls : List Line) → drop 2 ls ≡ drop 1 (drop 1 ls)
drop-two [] = refl
drop-two (x ∷ []) = refl
drop-two (x ∷ y ∷ ls) = refl

-- a line that breaks off is of no form
pub source-unended : is_source (line [] false) ≡ false
unfolding is_source is_hex
source-unended = refl

pub numbers-unended : (n : ℕ) → is_numbers n (line [] false) ≡ false
unfolding is_numbers is_hex
numbers-unended n = refl

module _ (input : List ℕ) {e : ℕ} (a : e ≡ line_span input) {s : Bool} (p : s ≡ is_source (line_to input e)) where
  source-form : faulty is_source (lines input) ≡ not s
  source-form = first-faulty is_source source-unended input ∙ rw (p, a)

  pub no_source : s ≡ false → refused BadLine 1 ≡ first (frame_rules (lines input))
  no_source q = rw (source-form, q)

  module _ (given : s ≡ true) (rest : List ℕ) (b : rest ≡ drop (e + 1) input) {f : ℕ} (c : f ≡ line_span rest) {o : Bool} (r : o ≡ is_numbers offset_digits (line_to rest f)) where
    rest_lines : drop 1 (lines input) ≡ lines rest
    rest_lines = lines-behind input ∙ rw (b, a)

    offset-form : faulty (is_numbers offset_digits) (drop 1 (lines input)) ≡ not o
    offset-form = rw rest_lines (first-faulty (is_numbers offset_digits) (numbers-unended offset_digits) rest ∙ rw (r, c))

    pub no-offset : o ≡ false → refused BadLine 2 ≡ first (frame_rules (lines input))
    no-offset q = rw (source-form, given, offset-form, q)

    module _ (given' : o ≡ true) (records : List ℕ) (d : records ≡ drop (f + 1) rest) where
      record-lines : drop 2 (lines input) ≡ lines records
      record-lines = drop-two (lines input) ∙ rw rest_lines (lines-behind rest ∙ rw (d, c))

      pub no_record : length records ≡ 0 → refused BadLine 3 ≡ first (frame_rules (lines input))
      unfolding lines
      no_record z = rw (source-form, given, offset-form, given', record-lines) (none records z)
        where
          none : (bs : List ℕ) → length bs ≡ 0 → refused BadLine 3 ≡ cond (eqb (length (lines bs)) 0) (refused BadLine 3) (first (record_rules 3 (lines bs)))
          none [] z = refl
          none (x ∷ bs) z = absurd (omega arith)

      pub records-ruled : 0 < length records → first (record_rules 3 (lines records)) ≡ first (frame_rules (lines input))
      records-ruled h = rw (source-form, given, offset-form, given', record-lines, ne_eqb (length (lines records)) 0 (λ z. omega (arith, lines-some records h)))

      pub frame-source : source_of (lines input) ≡ pairs (take e input)
      frame-source = rw (first-bytes-are input, a)

      pub frame-offset : offset_of (lines input) ≡ hex_number (take f rest)
      frame-offset = rw (rest_lines, first-bytes-are rest, c)

      pub frame-table : table_of (lines input) ≡ list_bytes record_row (lines records)
      frame-table = rw record-lines
