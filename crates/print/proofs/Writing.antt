-- How a text is written, piece by piece.
--     put_then                    one piece after another
--     Rest                        a loop's invariant: what is still to be written
--     decimal-small, ..           a number is the digits of its tenth, and its last
--     fields-turn, ranges-turn    the numbers and the ranges of an entry, one after another
--     printed-are                 what is read back from a list's bytes is the list, where its numbers fit
-- Assumes nothing.
use Prim.Native.Nat.{ℕ, zero, suc, ◌+◌, ◌-◌, ◌*◌, ◌/◌, ◌%◌, ◌^◌, ◌≤◌, ◌<◌}
use mathlib.Core.Path.{◌≡◌, refl, ap, ◌∙◌}
use mathlib.Core.Bool.{Bool, true, false, ◌&&◌}
use mathlib.Core.List.{List, [], ◌∷◌, ◌++◌, map, append_assoc}
use native.Mathlib.Omega.{arith}
use native.Mathlib.Nat.{pow-suc, add_assoc, mul-suc, zero-add}
use native.Mathlib.Numerals.{add-one}
use borrow.Author.Tests.{lt-ltb, le-ltb, ltb-true, ltb-false}
use lib.Dec.{ltb, eqb}
use lib.ListN.{length, take, drop, length-append}
use lib.Seq.{sets, length-sets, sets-eq, get_or-append-add}
use Rattle.lent.specs.Numbers.{word, number_bytes, le4}
use Rattle.lent.specs.Lists.{row_bytes, list_bytes}
use Rattle.lent.proofs.Writes.{length-row, sets-append}
use Rattle.lent.specs.Fit32.{Fit32, AllFit32}
use Rattle.lent.proofs.Fit32.{word_back}
use Rattle.text.specs.Text.{bytes_of}
use Rattle.print.specs.Printed.{digits, decimal, field, range, fields, ranges, printed, printed_list}
use Rattle.print.specs.inner.Writing.{Put, words, printed_words}

pub put_then : {xs ys a b c : List ℕ} {n m l : ℕ} → Put xs a n b m → Put ys b m c l → Put (xs ++ ys) a n c l
put_then {xs} {ys} {a} {b} {c} {n} {m} {l} p q =
    record {
      bytes = q.bytes ∙ rw (p.bytes, p.next) (sets-append xs ys a n);
      next = omega (arith, length-append xs ys, p.next, q.next);
    }

-- a text that has room, from the first byte on
pub put_front : (xs out : List ℕ) {out' : List ℕ} {r : ℕ} → Put xs out 0 out' r → r ≤ length out → (r ≡ length xs) × (out' ≡ xs ++ drop (length xs) out) × (r ≤ length out')
put_front xs out {out'} {r} p h =
    let n : r ≡ length xs = omega (arith, p.next) in
    (n, p.bytes ∙ sets-eq xs out 0 (omega arith) ∙ rw (zero-add (length xs)), omega (arith, ap length p.bytes, length-sets out 0 xs))

-- ---- what is still to be written: xs from byte at' of out' on, which makes ys from byte `at` of out on
pub record Rest (xs out' : List ℕ) (at' : ℕ) (ys out : List ℕ) (at : ℕ) : Type 0 where
  pub bytes : sets out' at' xs ≡ sets out at ys
  pub next : at' + length xs ≡ at + length ys

pub rest-turn : {zs out' out'' ys out : List ℕ} {at' at'' at : ℕ} (xs all : List ℕ) → all ≡ zs ++ xs → Put zs out' at' out'' at'' → Rest all out' at' ys out at → Rest xs out'' at'' ys out at
rest-turn {zs} {out'} {out''} {ys} {out} {at'} {at''} {at} xs all e p r =
    record {
      bytes = rw (p.bytes, p.next) (sets-append zs xs out' at' ∙ rw e at r.bytes);
      next = omega (arith, length-append zs xs, p.next, r.next, ap length e);
    }

pub rest_end : {out' ys out : List ℕ} {at' at : ℕ} (xs : List ℕ) → xs ≡ [] → Rest xs out' at' ys out at → Put ys out at out' at'
rest_end xs e r = record { bytes = rw e at r.bytes; next = omega (arith, r.next, ap length e) }

-- ---- numbers

-- the count of digits does not matter where it is more than the number
digits_more : (n m v : ℕ) → v < n → v < m → digits n v ≡ digits m v
unfolding digits
digits_more zero m v h g = absurd (omega arith)
digits_more (suc n) zero v h g = absurd (omega arith)
digits_more (suc n) (suc m) v h g = go (ltb v 10) refl (λ q. digits_more n m (v / 10) (omega arith) (omega arith))
  where
    go : (t : Bool) → ltb v 10 ≡ t → (10 ≤ v → digits n (v / 10) ≡ digits m (v / 10)) → digits (suc n) v ≡ digits (suc m) v
    go true e r = rw e
    go false e r = rw (e, r (ltb-false v 10 e))

pub decimal-small : (v : ℕ) → v < 10 → decimal v ≡ (48 + v) ∷ []
unfolding decimal digits
decimal-small v h = rw (lt-ltb v 10 h)

pub decimal-large : (v : ℕ) → 10 ≤ v → decimal v ≡ decimal (v / 10) ++ (48 + v % 10) ∷ []
unfolding decimal digits
decimal-large v h = rw (le-ltb v 10 h, digits_more v (suc (v / 10)) (v / 10) (omega arith) (omega arith))

tenth : (n v : ℕ) → v < 10 ^ suc (suc n) → v / 10 < 10 ^ suc n
tenth n v h = let p : 10 ^ suc (suc n) ≡ 10 ^ suc n * 10 = pow-suc 10 (suc n) in omega arith

-- a number below ten to the n has n digits at most, and one at least
pub decimal-length : (n v : ℕ) → v < 10 ^ suc n → length (decimal v) ≤ suc n
decimal-length zero v h = rw (decimal-small v (omega arith)) (omega arith)
decimal-length (suc n) v h = go (ltb v 10) refl (λ q. decimal-length n (v / 10) (tenth n v h))
  where
    go : (t : Bool) → ltb v 10 ≡ t → (10 ≤ v → length (decimal (v / 10)) ≤ suc n) → length (decimal v) ≤ suc (suc n)
    go true e r = rw (decimal-small v (ltb-true v 10 e)) (omega arith)
    go false e r = rw (decimal-large v (ltb-false v 10 e)) (omega (arith, length-append (decimal (v / 10)) ((48 + v % 10) ∷ []), r (ltb-false v 10 e)))

pub decimal-short : (v : ℕ) → v < 4294967296 → length (decimal v) ≤ 10
decimal-short v h = decimal-length 9 v (omega arith)

-- ---- ranges

pub range-absent : (s e : ℕ) → (eqb s 4294967295 && eqb e 4294967295) ≡ true → range s e ≡ bytes_of " - -"
unfolding range
range-absent s e h = rw h

pub range-present : (s e : ℕ) → (eqb s 4294967295 && eqb e 4294967295) ≡ false → range s e ≡ field s ++ field e
unfolding range
range-present s e h = rw h

-- ---- an entry's numbers and ranges

pub fields-turn : (l : List ℕ) (from n i : ℕ) → i < n
    → fields (words l (from + 4 * i) (n - i)) ≡ field (word l (from + 4 * i)) ++ fields (words l (from + 4 * (i + 1)) (n - (i + 1)))
unfolding fields words
fields-turn l from n i h =
    let e : n - i ≡ suc (n - (i + 1)) = omega arith in
    let q : from + 4 * i + 4 ≡ from + 4 * (i + 1) = omega arith in
    rw (e, q)

pub fields-none : (l : List ℕ) (from n i : ℕ) → n ≤ i → fields (words l (from + 4 * i) (n - i)) ≡ []
unfolding fields words
fields-none l from n i h = let e : n - i ≡ 0 = omega arith in rw e

pub ranges-turn : (l : List ℕ) (from n i : ℕ) → i < n
    → ranges (words l (from + 8 * i) (n - i + (n - i)))
    ≡ range (word l (from + 8 * i)) (word l (from + 8 * i + 4)) ++ ranges (words l (from + 8 * (i + 1)) (n - (i + 1) + (n - (i + 1))))
unfolding ranges words
ranges-turn l from n i h =
    let e : n - i + (n - i) ≡ suc (suc (n - (i + 1) + (n - (i + 1)))) = omega arith in
    let q : from + 8 * i + 4 + 4 ≡ from + 8 * (i + 1) = omega arith in
    rw (e, q)

pub ranges-none : (l : List ℕ) (from n i : ℕ) → n ≤ i → ranges (words l (from + 8 * i) (n - i + (n - i))) ≡ []
unfolding ranges words
ranges-none l from n i h = let e : n - i + (n - i) ≡ 0 = omega arith in rw e

-- the numbers of an entry are its first n and the others
pub words-split : (l : List ℕ) (from n m : ℕ) → (take n (words l from (n + m)) ≡ words l from n) × (drop n (words l from (n + m)) ≡ words l (from + 4 * n) m)
unfolding words
words-split l from zero m = (refl, let e : from + 4 * 0 ≡ from = omega arith in rw (e, zero-add m))
words-split l from (suc n) m =
    let k : suc n + m ≡ suc (n + m) = omega arith in
    let e : from + 4 * suc n ≡ from + 4 + 4 * n = omega arith in
    let r = words-split l (from + 4) n m in
    (rw (k, r.0), rw (k, e) r.1)

-- ---- a list's entries

pub lists-turn : (letter n w : ℕ) (l : List ℕ) (from k : ℕ) {width : ℕ} → width ≡ number_bytes * w → 0 < k
    → printed_words letter n w l from k ≡ printed letter n (words l from w) ++ printed_words letter n w l (from + width) (k - 1)
unfolding printed_words
lists-turn letter n w l from zero e h = absurd (omega arith)
lists-turn letter n w l from (suc k) e h = let q : suc k - 1 ≡ k = omega arith in rw (e, q)

-- the same at entry i
pub lists-turn-at : (letter n w : ℕ) (l : List ℕ) (i k : ℕ) → i < k
    → printed_words letter n w l (number_bytes * w * i) (k - i)
    ≡ printed letter n (words l (number_bytes * w * i) w) ++ printed_words letter n w l (number_bytes * w * (i + 1)) (k - (i + 1))
unfolding printed_words
lists-turn-at letter n w l i k h =
    let e : k - i ≡ suc (k - (i + 1)) = omega arith in
    let q : number_bytes * w * i + number_bytes * w ≡ number_bytes * w * (i + 1) = rw (add-one i, mul-suc (number_bytes * w) i) in
    rw (e, q)

pub lists-none : (letter n w : ℕ) (l : List ℕ) (from k i : ℕ) → k ≤ i → printed_words letter n w l from (k - i) ≡ []
unfolding printed_words
lists-none letter n w l from k i h = let e : k - i ≡ 0 = omega arith in rw e

-- ---- a list's bytes, read back

word-shift : (xs ys : List ℕ) (at : ℕ) → word (xs ++ ys) (length xs + at) ≡ word ys at
unfolding word
word-shift xs ys at =
    rw (add_assoc (length xs) at 1, add_assoc (length xs) at 2, add_assoc (length xs) at 3, get_or-append-add xs ys at 0, get_or-append-add xs ys (at + 1) 0, get_or-append-add xs ys (at + 2) 0, get_or-append-add xs ys (at + 3) 0)

words-shift : (xs ys : List ℕ) (at n : ℕ) → words (xs ++ ys) (length xs + at) n ≡ words ys at n
unfolding words
words-shift xs ys at zero = refl
words-shift xs ys at (suc n) = rw (word-shift xs ys at, add_assoc (length xs) at 4, words-shift xs ys (at + 4) n)

words_row : (vs rest : List ℕ) → Fit32 vs → words (row_bytes vs ++ rest) 0 (length vs) ≡ vs
unfolding words row_bytes Fit32
words_row [] rest h = refl
words_row (v ∷ vs) rest h =
    rw (append_assoc (le4 v) (row_bytes vs) rest, word_back v (row_bytes vs ++ rest) h.0, words-shift (le4 v) (row_bytes vs ++ rest) 0 (length vs), words_row vs rest h.1)

module _ (letter n w : ℕ) where
  printed-shift : (xs ys : List ℕ) (at k : ℕ) → printed_words letter n w (xs ++ ys) (length xs + at) k ≡ printed_words letter n w ys at k
  unfolding printed_words
  printed-shift xs ys at zero = refl
  printed-shift xs ys at (suc k) = rw (words-shift xs ys at w, add_assoc (length xs) at (number_bytes * w), printed-shift xs ys (at + number_bytes * w) k)

  module _ {E : Type 0} (row : E → List ℕ) (wide : (e : E) → length (row e) ≡ w) where
    pub printed-are : (es : List E) (rest : List ℕ) → AllFit32 row es → printed_words letter n w (list_bytes row es ++ rest) 0 (length es) ≡ printed_list letter n (map row es)
    unfolding printed_words printed_list list_bytes AllFit32
    printed-are [] rest h = refl
    printed-are (e ∷ es) rest h =
        let a : 0 + number_bytes * w ≡ length (row_bytes (row e)) + 0 = omega (arith, length-row (row e), wide e) in
        let f : words (row_bytes (row e) ++ (list_bytes row es ++ rest)) 0 w ≡ row e = rw (← wide e) (words_row (row e) (list_bytes row es ++ rest) h.0) in
        let g : list_bytes row (e ∷ es) ++ rest ≡ row_bytes (row e) ++ (list_bytes row es ++ rest) = append_assoc (row_bytes (row e)) (list_bytes row es) rest in
        let shifted : printed_words letter n w (row_bytes (row e) ++ (list_bytes row es ++ rest)) 0 (suc (length es)) ≡ printed_list letter n (map row (e ∷ es)) =
        rw (a, f, printed-shift (row_bytes (row e)) (list_bytes row es ++ rest) 0 (length es), printed-are es rest h.1) in
        ap (λ (l : List ℕ). printed_words letter n w l 0 (suc (length es))) g ∙ shifted
