-- A word is looked for among the keywords of its length and first letter, and those are a part of the table.
use Prim.Native.Nat.{ℕ, zero, suc, ◌+◌, ◌-◌, ◌*◌, ◌≤◌, ◌<◌}
use mathlib.Core.Path.{◌≡◌, refl, sym}
use mathlib.Core.Bool.{Bool, true, false, cond, ◌&&◌}
use mathlib.Core.List.{List, [], ◌∷◌, map, flatten}
use native.Mathlib.Omega.{arith}
use borrow.Author.Tests.{leb-true, eqb-true, eqb-false}
use lib.Dec.{eqb, leb}
use lib.ListN.{length, get_or, take, drop, length-map}
use Rattle.keywords.specs.Keywords.{keywords, elem, is_keyword}
use Rattle.text.specs.Text.{bytes_of, upper, upper_word, same}
use Rattle.lent.proofs.Cases.{both}
use Rattle.text.proofs.Texts.{same_length}
use Rattle.keywords.specs.inner.KeywordTable.{shortest, longest, lengths, alphabet, letter, letters, of_length, beginning, keywords_with, keyword_bytes, start_rows, two_bytes, Lent, cell_start, cell_of, cell_bytes, table-right}

-- words that are the same have one first byte
same_first : (a b : List ℕ) → same a b ≡ true → get_or a 0 0 ≡ get_or b 0 0
same_first [] [] e = refl
same_first [] (y ∷ ys) e = absurd (let z : ◌≡◌ {A = ℕ} 0 1 = cc in omega arith)
same_first (x ∷ xs) [] e = absurd (let z : ◌≡◌ {A = ℕ} 0 1 = cc in omega arith)
same_first (x ∷ xs) (y ∷ ys) e = eqb-true x y (both (eqb x y) _ e).0

-- a word is in a list exactly when it is among the words of its length and first byte there
elem-with : (w : List ℕ) (ks : List (List ℕ)) → elem w ks ≡ elem w (beginning (get_or w 0 0) (of_length (length w) ks))
elem-with w [] = refl
elem-with w (k ∷ ks) = go (eqb (length k) (length w)) refl (eqb (get_or k 0 0) (get_or w 0 0)) refl (same w k) refl (elem-with w ks)
  where
    go : (b : Bool) → eqb (length k) (length w) ≡ b → (d : Bool) → eqb (get_or k 0 0) (get_or w 0 0) ≡ d → (s : Bool) → same w k ≡ s →
        elem w ks ≡ elem w (beginning (get_or w 0 0) (of_length (length w) ks)) →
        elem w (k ∷ ks) ≡ elem w (beginning (get_or w 0 0) (cond b (k ∷ of_length (length w) ks) (of_length (length w) ks)))
    go true p true q s r ih = rw (q, ih)
    go true p false q false r ih = rw (q, r) ih
    go true p false q true r ih = absurd (eqb-false _ _ q (sym (same_first w k r)))
    go false p d q false r ih = rw r ih
    go false p d q true r ih = absurd (eqb-false _ _ p (sym (same_length w k r)))

-- a word of some letters, no fewer than the shortest keyword has and no more than the longest
abbrev pub lettered : List ℕ → Bool
lettered k = leb shortest (length k) && leb (length k) longest && letters k

abbrev all_lettered : List (List ℕ) → Bool
all_lettered [] = true
all_lettered (k ∷ ks) = lettered k && all_lettered ks

keywords-lettered : all_lettered (map bytes_of keywords) ≡ true
unfolding bytes_of keywords
keywords-lettered = refl

-- such words of n bytes and with the first letter c
abbrev pub kin : ℕ → ℕ → List (List ℕ) → Bool
kin n c [] = true
kin n c (k ∷ ks) = eqb (length k) n && eqb (get_or k 0 0) c && lettered k && kin n c ks

kin-with : (n c : ℕ) (ks : List (List ℕ)) → all_lettered ks ≡ true → kin n c (beginning c (of_length n ks)) ≡ true
kin-with n c [] e = refl
kin-with n c (k ∷ ks) e =
    let b = both (lettered k) (all_lettered ks) e in
    go (eqb (length k) n) refl (eqb (get_or k 0 0) c) refl b.0 (kin-with n c ks b.1)
  where
    go : (b : Bool) → eqb (length k) n ≡ b → (d : Bool) → eqb (get_or k 0 0) c ≡ d → lettered k ≡ true → kin n c (beginning c (of_length n ks)) ≡ true →
        kin n c (beginning c (cond b (k ∷ of_length n ks) (of_length n ks))) ≡ true
    go true p true q s ih = rw q (rw (p, q, s) ih)
    go true p false q s ih = rw q ih
    go false p d q s ih = ih

-- what a word's kinship says of it
pub kin-first : (n c : ℕ) (k : List ℕ) (ks : List (List ℕ)) → kin n c (k ∷ ks) ≡ true →
    ((length k ≡ n) × (get_or k 0 0 ≡ c)) × ((shortest ≤ length k) × (length k ≤ longest)) × (letters k ≡ true) × (kin n c ks ≡ true)
kin-first n c k ks e =
    let a = both (eqb (length k) n && eqb (get_or k 0 0) c && lettered k) (kin n c ks) e in
    let b = both (eqb (length k) n && eqb (get_or k 0 0) c) (lettered k) a.0 in
    let f = both _ _ b.0 in
    let d = both (leb shortest (length k) && leb (length k) longest) (letters k) b.1 in
    let s = both _ _ d.0 in
    ((eqb-true _ _ f.0, eqb-true _ _ f.1), (leb-true _ _ s.0, leb-true _ _ s.1), d.1, a.1)

-- byte i of a word of letters is a letter
pub letter_at : (w : List ℕ) (i : ℕ) → letters w ≡ true → i < length w → letter (get_or w i 0) ≡ true
letter_at [] i e h = absurd (omega arith)
letter_at (b ∷ w) zero e h = (both (letter b) (letters w) e).0
letter_at (b ∷ w) (suc i) e h = letter_at w i (both (letter b) (letters w) e).1 (omega arith)

-- the first byte of a word in upper case
upper_first : (t : List ℕ) → get_or (upper_word t) 0 0 ≡ upper (get_or t 0 0)
unfolding upper
upper_first [] = refl
upper_first (b ∷ t) = refl

module _ (t : List ℕ) where
  -- the keywords of a text's length and first letter
  abbrev pub kindred : List (List ℕ)
  kindred = keywords_with (length t) (upper (get_or t 0 0))

  pub kindred-kin : kin (length t) (upper (get_or t 0 0)) kindred ≡ true
  kindred-kin = kin-with (length t) (upper (get_or t 0 0)) (map bytes_of keywords) keywords-lettered

  -- a text is a keyword where it is one of them
  pub kindred-all : is_keyword t ≡ elem (upper_word t) kindred
  unfolding is_keyword
  kindred-all = rw (elem-with (upper_word t) (map bytes_of keywords), length-map, upper_first t)

  -- a text that is shorter or longer than every keyword, or begins with no letter, is none
  pub not-keyword : (shortest ≤ length t → length t ≤ longest → letter (upper (get_or t 0 0)) ≡ true → ⊥) → false ≡ is_keyword t
  not-keyword h = rw kindred-all (go kindred kindred-kin)
    where
      go : (ks : List (List ℕ)) → kin (length t) (upper (get_or t 0 0)) ks ≡ true → false ≡ elem (upper_word t) ks
      go [] e = refl
      go (k ∷ ks) e =
          let f = kin-first _ _ k ks e in
          absurd (h (omega arith) (omega arith) (rw f.0.1 at (letter_at k 0 f.2 (omega arith))))

-- the numbers from i on, m of them
abbrev pub range : ℕ → ℕ → List ℕ
range i zero = []
range i (suc m) = i ∷ range (suc i) m

-- two functions that agree on some numbers in a row agree at each of them
pub at-range : {A : Type 0} (f g : ℕ → A) (i m : ℕ) → map f (range i m) ≡ map g (range i m) → (k : ℕ) → k < m → f (i + k) ≡ g (i + k)
at-range f g i zero e k h = absurd (omega arith)
at-range f g i (suc m) e zero h = let z : i + 0 ≡ i = omega arith in rw z (cc)
at-range f g i (suc m) e (suc k) h =
    let z : i + suc k ≡ suc i + k = omega arith in
    rw z (at-range f g (suc i) m (cc) k (omega arith))

-- and so for the lengths that keywords have, and for the letters
at-cell : {A : Type 0} (f g : ℕ → ℕ → A) → map (λ n. map (f n) alphabet) lengths ≡ map (λ n. map (g n) alphabet) lengths →
    (n c : ℕ) → shortest ≤ n → n ≤ longest → 65 ≤ c → c ≤ 90 → f n c ≡ g n c
at-cell f g e n c low high first last =
    let y : 2 + (n - 2) ≡ n = omega arith in
    let z : 65 + (c - 65) ≡ c = omega arith in
    rw z at (at-range (f n) (g n) 65 26 (rw y at (at-range (λ m. map (f m) alphabet) (λ m. map (g m) alphabet) 2 11 e (n - 2) (omega arith))) (c - 65) (omega arith))

-- a number is read from its two bytes
cell_start-two_bytes : (ms : List ℕ) (i : ℕ) → i < length ms → cell_start (flatten (map two_bytes ms)) i ≡ get_or ms i 0
unfolding flatten
cell_start-two_bytes [] i h = absurd (omega arith)
cell_start-two_bytes (m ∷ ms) zero h = omega arith
cell_start-two_bytes (m ∷ ms) (suc i) h =
    let y : 2 * suc i ≡ suc (suc (2 * i)) = omega arith in
    let z : 2 * suc i + 1 ≡ suc (suc (2 * i + 1)) = omega arith in
    rw (z, y) (cell_start-two_bytes ms i (omega arith))

-- numbers that rise, and to no more than m
abbrev rising : ℕ → List ℕ → Bool
rising m [] = true
rising m (a ∷ l) = leb a (get_or l 0 m) && leb a m && rising m l

rising-at : (m : ℕ) (l : List ℕ) (i : ℕ) → rising m l ≡ true → i + 1 < length l → (get_or l i 0 ≤ get_or l (i + 1) 0) × (get_or l (i + 1) 0 ≤ m)
rising-at m [] i e h = absurd (omega arith)
rising-at m (a ∷ []) i e h = absurd (omega arith)
rising-at m (a ∷ b ∷ l) zero e h =
    let t = both (leb a b && leb a m) (rising m (b ∷ l)) e in
    let u = both (leb b (get_or l 0 m) && leb b m) (rising m l) t.1 in
    (leb-true a b (both (leb a b) (leb a m) t.0).0, leb-true b m (both (leb b (get_or l 0 m)) (leb b m) u.0).1)
rising-at m (a ∷ b ∷ l) (suc i) e h =
    let z : suc i + 1 ≡ suc (i + 1) = omega arith in
    rw z (rising-at m (b ∷ l) i (both (leb a b && leb a m) (rising m (b ∷ l)) e).1 (omega arith))

-- the table that was lent, at a length and a letter, by the two numbers that stand there
module _ {words starts : List ℕ} (lent : Lent words starts) (n c : ℕ) (low : shortest ≤ n) (high : n ≤ longest) (first : 65 ≤ c) (last : c ≤ 90) where
  module _ {i from end : ℕ} (cell : i ≡ cell_of n c) (a : from ≡ cell_start starts i) (b : end ≡ cell_start starts (i + 1)) where
    start : from ≡ get_or start_rows (cell_of n c) 0
    start = rw (a, cell, lent.places) (cell_start-two_bytes start_rows (cell_of n c) (omega arith))

    stop : end ≡ get_or start_rows (cell_of n c + 1) 0
    stop = rw (b, cell, lent.places) (cell_start-two_bytes start_rows (cell_of n c + 1) (omega arith))

    -- they lie in the bytes
    pub placed : (from ≤ end) × (end ≤ length words)
    unfolding keyword_bytes flatten keywords bytes_of
    placed =
        let all : length keyword_bytes ≡ 1347 = refl in
        rw (start, stop, lent.bytes, all) (rising-at 1347 start_rows (cell_of n c) refl (omega arith))

    -- and between them are the words of that length and letter
    pub there : take (end - from) (drop from words) ≡ flatten (keywords_with n c)
    there = rw (start, stop, lent.bytes) (at-cell cell_bytes (λ m d. flatten (keywords_with m d)) table-right n c low high first last)
