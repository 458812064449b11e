-- Words that are compared byte by byte.
-- Assumes nothing.
use Prim.Native.Nat.{ℕ, zero, suc, ◌+◌, ◌-◌, ◌≤◌, ◌<◌}
use mathlib.Core.Path.{◌≡◌, refl, sym, ap, ◌∙◌}
use mathlib.Core.Bool.{Bool, true, false, ◌&&◌}
use mathlib.Core.List.{List, [], ◌∷◌}
use native.Mathlib.Numerals.{add-one}
use native.Mathlib.Omega.{arith}
use native.Mathlib.Nat.{le_of_lt}
use borrow.Author.Tests.{eq-eqb, ne_eqb, lt-ltb, le-ltb, lt-leb, le-leb}
use lib.Dec.{eqb}
use Rattle.std.specs.List.{list_all, zip}
use Rattle.std.specs.Char.{to_ascii_uppercase}
use mathlib.Core.Logic.{◌⊎◌, inl, inr}
use mathlib.Core.Bool.{and-false}
use lib.ListN.{length, get_or, take, drop, length-map, length-drop, drop_of_length-le}
use lib.Seq.{drop-cons, take_all}
use Rattle.lent.proofs.Cases.{both, lt-or-le}
use Rattle.text.specs.Text.{text, upper, upper_word, same, says}

-- words that are the same have one length
pub same_length : (a b : List ℕ) → same a b ≡ true → length a ≡ length b
same_length [] [] e = refl
same_length [] (y ∷ ys) e = absurd (let z : ◌≡◌ {A = ℕ} 0 1 = cc in omega arith)
same_length (x ∷ xs) [] e = absurd (let z : ◌≡◌ {A = ℕ} 0 1 = cc in omega arith)
same_length (x ∷ xs) (y ∷ ys) e = ap suc (same_length xs ys (both (eqb x y) _ e).1)

pub differ : (a b : List ℕ) → (length a ≡ length b → ⊥) → false ≡ same a b
differ a b h = go (same a b) refl
  where
    go : (t : Bool) → same a b ≡ t → false ≡ t
    go true e = absurd (h (same_length a b e))
    go false e = refl

-- two words are the same where they are from byte i on: what that byte says
module _ (a b : List ℕ) (i : ℕ) (so : same a b ≡ same (drop i a) (drop i b)) where
  turn : i < length a → i < length b → same a b ≡ (eqb (get_or a i 0) (get_or b i 0) && same (drop (i + 1) a) (drop (i + 1) b))
  turn h g = so ∙ rw (add-one, drop-cons a i 0 h, drop-cons b i 0 g)

  pub same_differs : i < length a → i < length b → (get_or a i 0 ≡ get_or b i 0 → ⊥) → false ≡ same a b
  same_differs h g q = rw (turn h g, ne_eqb _ _ q)

  pub same_next : i < length a → i < length b → get_or a i 0 ≡ get_or b i 0 → same a b ≡ same (drop (i + 1) a) (drop (i + 1) b)
  same_next h g q = turn h g ∙ rw (eq-eqb _ _ q)

  pub same_end : length a ≤ i → length b ≤ i → true ≡ same a b
  same_end h g = rw (so, drop_of_length-le a h, drop_of_length-le b g)

-- byte i of a word in upper case
pub upper-at : (t : List ℕ) (i : ℕ) → i < length t → get_or (upper_word t) i 0 ≡ upper (get_or t i 0)
upper-at [] i h = absurd (omega arith)
upper-at (x ∷ t) zero h = refl
upper-at (x ∷ t) (suc i) h = upper-at t i (omega arith)

-- ---- a text against an upper-case word

-- the library's upper case of a byte is `upper`
pub upper_is : (b : ℕ) → to_ascii_uppercase b ≡ upper b
unfolding upper
upper_is b = go (lt-or-le b 97) (lt-or-le b 123)
  where
    go : (b < 97) ⊎ (97 ≤ b) → (b < 123) ⊎ (123 ≤ b) → to_ascii_uppercase b ≡ upper b
    go (inl h) q = simp (lt-ltb b 97 h, lt-leb 97 b h)
    go (inr h) (inl g) = simp (le-ltb b 97 h, lt-ltb b 123 g, le-leb 97 b h, le-leb b 122 (omega arith))
    go (inr h) (inr g) = simp (le-ltb b 97 h, le-ltb b 123 g, lt-leb b 122 (omega arith), and-false)

-- a byte of the text, in upper case, is the word's
abbrev pub agrees : ℕ × ℕ → Bool
agrees p = eqb (to_ascii_uppercase p.0) p.1

module _ (w t : List ℕ) where
  pub says-short : (length w ≡ length t → ⊥) → false ≡ says w t
  unfolding says
  says-short h = differ (upper_word t) w (λ e. h (sym e ∙ length-map t upper))

  -- byte by byte, of words of one length
  pub says-pairs : length w ≡ length t → list_all agrees (zip t w) ≡ says w t
  unfolding says
  says-pairs e = go w t e
    where
      go : (xs ys : List ℕ) → length xs ≡ length ys → list_all agrees (zip ys xs) ≡ same (upper_word ys) xs
      go [] [] e = refl
      go [] (y ∷ ys) e = absurd (omega arith)
      go (x ∷ xs) [] e = absurd (omega arith)
      go (x ∷ xs) (y ∷ ys) e = rw (go xs ys (omega arith), upper_is y)

  -- they agree up to byte i
  pub record Agree (i : ℕ) : Type 0 where
    pub so : says w t ≡ same (drop i (upper_word t)) (drop i w)

  pub agree-start : Agree 0
  unfolding says
  agree-start = record { so = refl }

  module _ {i : ℕ} (a : Agree i) where
    pub agree_differ : {u : ℕ} → i < length t → i < length w → u ≡ upper (get_or t i 0) → (u ≡ get_or w i 0 → ⊥) → false ≡ says w t
    unfolding says
    agree_differ h g e d = same_differs (upper_word t) w i a.so (rw (length-map t upper) h) g (λ q. d (e ∙ sym (upper-at t i h) ∙ q))

    pub agree-next : {u : ℕ} → i < length t → i < length w → u ≡ upper (get_or t i 0) → u ≡ get_or w i 0 → Agree (i + 1)
    unfolding says
    agree-next h g e d = record { so = same_next (upper_word t) w i a.so (rw (length-map t upper) h) g (upper-at t i h ∙ sym e ∙ d) }

    pub agree-end : length t ≤ i → length w ≤ i → true ≡ says w t
    unfolding says
    agree-end h g = same_end (upper_word t) w i a.so (rw (length-map t upper) h) g

-- ---- the text between two places that need not lie in the source

module _ (s : List ℕ) (start end : ℕ) where
  pub text-back : end < start → [] ≡ text s start end
  unfolding text
  text-back h = let e : end - start ≡ 0 = omega arith in rw e

  pub text-inside : take (end - start) (drop start s) ≡ text s start end
  unfolding text
  text-inside = refl

  pub text-rest : start ≤ length s → length s < end → take (length s - start) (drop start s) ≡ text s start end
  unfolding text
  text-rest h g =
      take_all (length s - start) (drop start s) (rw length-drop (omega arith))
      ∙ sym (take_all (end - start) (drop start s) (rw length-drop (omega arith)))

  pub text-past : length s < start → [] ≡ text s start end
  unfolding text
  text-past h = rw (drop_of_length-le s (le_of_lt h)) (sym (take_all (end - start) [] (omega arith)))
