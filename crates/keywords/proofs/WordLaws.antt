-- A text is compared with a word byte by byte where it stands.
use Prim.Native.Nat.{ℕ, ◌+◌, ◌-◌, ◌≤◌, ◌<◌}
use mathlib.Core.Path.{◌≡◌, refl, sym, ◌∙◌}
use mathlib.Core.Bool.{Bool, true, false, cond, ◌||◌}
use mathlib.Core.List.{List, [], ◌∷◌, map, flatten}
use native.Mathlib.Omega.{arith}
use borrow.Author.Tests.{eqb-true, leb-true}
use lib.Bits.{bit_and}
use lib.Dec.{eqb, leb}
use lib.ListN.{length, get_or, take, drop, length-append}
use lib.Seq.{take_all, take_at, drop_at}
use Rattle.keywords.specs.Keywords.{elem, is_keyword}
use Rattle.text.specs.Text.{upper, upper_word, says}
use Rattle.lent.proofs.Cases.{both}
use Rattle.text.proofs.Texts.{Agree, agree-start, agree_differ, agree-next}
use Rattle.keywords.specs.inner.KeywordTable.{letter, letters, Folds}
use Rattle.keywords.proofs.KeywordLaws.{kin, kin-first, letter_at, kindred, kindred-kin, kindred-all, range, at-range}

-- ---- a byte with bit 5 cleared

-- with the bits of a mask left it is the byte's upper case, or neither is a letter
abbrev pub clears : ℕ → ℕ → Bool
clears m b = let r = bit_and b m in cond (letter r || letter (upper b)) (eqb r (upper b)) true

-- a mask under which every byte is so folds every byte
pub mask-folds : (m : ℕ) → map (clears m) (range 0 256) ≡ map (λ b. true) (range 0 256) → (b : ℕ) → b < 256 → Folds b (bit_and b m)
mask-folds m all b h =
    let z : 0 + b ≡ b = omega arith in
    record { so = λ q. eqb-true _ _ (rw q at (rw z at (at-range (clears m) (λ x. true) 0 256 all b h))) }

or_right : (p q : Bool) → q ≡ true → (p || q) ≡ true
or_right true q e = refl
or_right false q e = e

-- compared with a letter it is as good as the upper case
module _ {b r w : ℕ} (f : Folds b r) (l : letter w ≡ true) where
  folded-same : r ≡ w → upper b ≡ w
  folded-same e = sym (f.so (rw (e, l))) ∙ e

  folded-other : (r ≡ w → ⊥) → upper b ≡ w → ⊥
  folded-other d e = d (f.so (or_right (letter r) _ (rw e l)) ∙ e)

-- where it is a letter it is the upper case, and elsewhere that is no letter
module _ {b r : ℕ} (f : Folds b r) where
  pub folded-none : (65 ≤ r → r ≤ 90 → ⊥) → letter (upper b) ≡ true → ⊥
  folded-none h e =
      let q = f.so (or_right (letter r) _ e) in
      let l = both (leb 65 r) (leb r 90) (rw q e) in
      h (leb-true _ _ l.0) (leb-true _ _ l.1)

-- byte i of a text, with bit 5 cleared, beside that of a word of letters
module _ (w t : List ℕ) {i r : ℕ} (a : Agree w t i) (f : Folds (get_or t i 0) r) (all : letters w ≡ true) (n : length w ≡ length t) (h : i < length t) where
  pub letter-differs : (r ≡ get_or w i 0 → ⊥) → false ≡ says w t
  letter-differs d = agree_differ w t a h (omega arith) refl (folded-other f (letter_at w i all (omega arith)) d)

  pub letter-same : r ≡ get_or w i 0 → Agree w t (i + 1)
  letter-same e = agree-next w t a h (omega arith) refl (folded-same f (letter_at w i all (omega arith)) e)

-- they agree in the first byte
pub first-same : (w t : List ℕ) → 0 < length w → 0 < length t → get_or w 0 0 ≡ upper (get_or t 0 0) → Agree w t 1
first-same w t h g e = agree-next w t (agree-start w t) g h refl (sym e)

-- ---- the words that lie end to end

-- what is left to compare with a text: words of its length and first letter, and it is a keyword where it is one of them
pub record WordsLeft (t rest : List ℕ) : Type 0 where
  pub words : List (List ℕ)
  pub bytes : rest ≡ flatten words
  pub alike : kin (length t) (upper (get_or t 0 0)) words ≡ true
  pub goal : is_keyword t ≡ elem (upper_word t) words

-- the first of them, and what is left behind it
pub record FirstWord (t rest : List ℕ) : Type 0 where
  pub fits : length t ≤ length rest
  pub lettered : letters (take (length t) rest) ≡ true
  pub begun : get_or (take (length t) rest) 0 0 ≡ upper (get_or t 0 0)
  pub found : says (take (length t) rest) t ≡ true → true ≡ is_keyword t
  pub passed : says (take (length t) rest) t ≡ false → WordsLeft t (take (length rest - length t) (drop (length t) rest))

module _ (t : List ℕ) where
  pub left-start : {rest : List ℕ} → rest ≡ flatten (kindred t) → WordsLeft t rest
  left-start e = record { words = kindred t; bytes = e; alike = kindred-kin t; goal = kindred-all t }

  module _ {rest : List ℕ} (l : WordsLeft t rest) where
    pub left-first : (length rest ≡ 0 → ⊥) → FirstWord t rest
    unfolding flatten says
    left-first h = go l.words l.bytes l.alike l.goal
      where
        go : (ks : List (List ℕ)) → rest ≡ flatten ks → kin (length t) (upper (get_or t 0 0)) ks ≡ true → is_keyword t ≡ elem (upper_word t) ks → FirstWord t rest
        go [] e k g = absurd (h (rw e))
        go (w ∷ ks) e k g =
            let f = kin-first _ _ w ks k in
            let whole : length rest ≡ length w + length (flatten ks) = rw (e, length-append) in
            let head : take (length t) rest ≡ w = rw e (take_at w (flatten ks) (length t) f.0.0) in
            let tail : drop (length t) rest ≡ flatten ks = rw e (drop_at w (flatten ks) (length t) f.0.0) in
            record {
              fits = omega arith;
              lettered = rw head f.2;
              begun = rw head f.0.1;
              found = λ s. sym (g ∙ rw (rw head at s));
              passed = λ s. record {
                words = ks;
                bytes = rw tail (take_all (length rest - length t) (flatten ks) (omega arith));
                alike = f.3;
                goal = g ∙ rw (rw head at s);
              };
            }

    pub left-none : 0 < length t → length rest ≡ 0 → false ≡ is_keyword t
    unfolding flatten
    left-none p h = go l.words l.bytes l.alike l.goal
      where
        go : (ks : List (List ℕ)) → rest ≡ flatten ks → kin (length t) (upper (get_or t 0 0)) ks ≡ true → is_keyword t ≡ elem (upper_word t) ks → false ≡ is_keyword t
        go [] e k g = sym g
        go (w ∷ ks) e k g =
            let f = kin-first _ _ w ks k in
            let whole : length rest ≡ length w + length (flatten ks) = rw (e, length-append) in
            absurd (omega arith)
