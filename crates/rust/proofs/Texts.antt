-- On an admitted table over valid UTF-8, with tokens cut between characters:
--     given-exactly   in valid UTF-8 a slice is given exactly if both its ends are between characters
--     texts           no text stops
--     unquote-is      a name without its quotes is document 01's, but that a lone mark stops
--     Reads, reads    both, of every token inside a record
-- Assumes nothing.
use Prim.Native.Nat.{ℕ, ◌+◌, ◌-◌, ◌≤◌, ◌<◌}
use mathlib.Core.Path.{◌≡◌, refl, sym, ◌∙◌}
use mathlib.Core.Bool.{Bool, true, false, cond, not, ◌&&◌, ◌||◌}
use mathlib.Core.List.{List, ◌∷◌}
use mathlib.Core.Logic.{⊎_elim}
use native.Mathlib.Omega.{arith}
use native.Mathlib.Numerals.{add-one}
use borrow.Author.Tests.{eq-eqb, ne_eqb, eqb-true, lt-ltb, le-ltb, le-leb, lt-leb, ltb-true}
use lib.Dec.{leb, ltb, eqb}
use lib.ListN.{length, get_or, drop}
use lib.Seq.{drop-cons}
use Rattle.std.specs.Prelude.{Ok}
use Rattle.records.specs.declared.record.Rec.{Rec}
use Rattle.records.specs.declared.range.Range.{Range}
use Rattle.records.specs.Kinds.{last_node}
use Rattle.records.specs.Table.{count, kind_at, record_at}
use Rattle.forest.specs.Forest.{Forest, nil, token, node, inside}
use Rattle.table.specs.Rules.{verdict}
use Rattle.table.specs.Exactly.{Token}
use Rattle.forest.specs.Sense.{Tidy}
use Rattle.records.specs.Ranges.{span}
use Rattle.lent.proofs.Cases.{lt-or-le}
use Rattle.forest.proofs.Sense.{admitted-tidy}
use Rattle.quotes.specs.Quotes.{byte_at, unquoted}
use Rattle.roots.proofs.Counts.{decide}
use Rattle.utf8.specs.Utf8.{further, is_among, Utf8, Between}
use Rattle.utf8.proofs.Utf8.{nothing, begins, behind, between-or}
use Rattle.rust.specs.Rust.{Call, stops, gives, is_char_boundary, slice, GivenExactly, text_of, Askable, NoTextStops}
use Rattle.rust.specs.ScopeRs.{unquote, is_lone}
use Rattle.rust.proofs.Starts.{inside-all}

-- ---- slices

-- a list from byte i on: that byte, and what is behind it
from_byte : (l : List ℕ) (i : ℕ) → i < length l → drop i l ≡ get_or l i 0 ∷ drop (i + 1) l
from_byte l i h = rw add-one (drop-cons l i 0 h)

third : (a b : Bool) {c : Bool} → c ≡ true → (a || (b || c)) ≡ true
third true b e = refl
third false true e = refl
third false false e = e

second : (a : Bool) {b : Bool} (c : Bool) → b ≡ true → (a || (b || c)) ≡ true
second true c e = refl
second false c e = rw e

boundary : (s : List ℕ) (i : ℕ) → i ≤ length s → Utf8 (drop i s) → is_char_boundary s i ≡ true
unfolding is_char_boundary
boundary s i h u =
    ⊎_elim
    (λ (g : i < length s). third (eqb i 0) (eqb i (length s)) (rw (lt-ltb i (length s) g, begins (get_or s i 0) (drop (i + 1) s) (rw (from_byte s i g) at u))))
    (λ (g : length s ≤ i). second (eqb i 0) _ (eq-eqb i (length s) (omega arith)))
    (lt-or-le i (length s))

low-boundary : (s : List ℕ) (i : ℕ) → i < length s → get_or s i 0 < 128 → is_char_boundary s i ≡ true
unfolding is_char_boundary
low-boundary s i g l = third (eqb i 0) (eqb i (length s)) (rw (lt-ltb i (length s) g, lt-leb 128 (get_or s i 0) l))

slice_is : (s : List ℕ) (a e : ℕ) → a ≤ e → is_char_boundary s a ≡ true → is_char_boundary s e ≡ true → slice s a e ≡ gives (record { start = a; end = e })
unfolding slice
slice_is s a e h p q = rw (le-leb a e h, p, q)

slice-stops : (s : List ℕ) (a e : ℕ) → e < a → slice s a e ≡ stops
unfolding slice
slice-stops s a e h = rw (lt-leb a e h)

-- and back: where the test holds, the place is between characters
boundary-between : (s : List ℕ) → Utf8 s → (i : ℕ) → is_char_boundary s i ≡ true → Between s i
unfolding is_char_boundary
boundary-between s u i = go (eqb i 0) (eqb i (length s)) (ltb i (length s)) (is_among further (get_or s i 0)) refl refl refl refl
  where
    go : (a b c d : Bool) → eqb i 0 ≡ a → eqb i (length s) ≡ b → ltb i (length s) ≡ c → is_among further (get_or s i 0) ≡ d → (a || (b || (c && not d))) ≡ true → Between s i
    go true b c d x y z w e = rw (eqb-true i 0 x) (record { within = omega arith; before = nothing; behind = u })
    go false true c d x y z w e =
        let q : i ≡ length s = eqb-true i (length s) y in
        ⊎_elim (λ k. k) (λ k. absurd (omega (arith, k.0))) (between-or s u i (omega arith))
    go false false true false x y z w e =
        ⊎_elim (λ k. k) (λ k. absurd (let v : ◌≡◌ {A = ℕ} 0 1 = cc in omega arith)) (between-or s u i (omega (arith, ltb-true i (length s) z)))
    go false false true true x y z w e = absurd (let v : ◌≡◌ {A = ℕ} 0 1 = cc in omega arith)
    go false false false d x y z w e = absurd (let v : ◌≡◌ {A = ℕ} 0 1 = cc in omega arith)

never : {r : Range} (c : Bool) → cond (c && false) (gives r) stops ≡ gives r → ⊥
never true e = let v : ◌≡◌ {A = ℕ} 0 1 = cc in omega arith
never false e = let v : ◌≡◌ {A = ℕ} 0 1 = cc in omega arith

slice-between : (s : List ℕ) → Utf8 s → (a e : ℕ) → slice s a e ≡ gives (record { start = a; end = e }) → Between s a × Between s e
unfolding slice
slice-between s u a e = go (is_char_boundary s a) (is_char_boundary s e) refl refl
  where
    go : (b c : Bool) → is_char_boundary s a ≡ b → is_char_boundary s e ≡ c
        → cond {A = Call Range} (leb a e && (b && c)) (gives (record { start = a; end = e })) stops ≡ gives (record { start = a; end = e }) → Between s a × Between s e
    go true true x y p = (boundary-between s u a x, boundary-between s u e y)
    go true false x y p = absurd (never (leb a e) p)
    go false c x y p = absurd (never (leb a e) p)

pub given-exactly : (s : List ℕ) → Utf8 s → GivenExactly s
given-exactly s u start end h =
    (slice-between s u start end, (λ w. slice_is s start end h (boundary s start w.0.within w.0.behind) (boundary s end w.1.within w.1.behind)))

-- ---- quotes

module _ (src : List ℕ) (s : Range) (h : s.start ≤ s.end) (x : Between src s.start) (y : Between src s.end) where
  abbrev cut : Range
  cut = record { start = s.start + 1; end = s.end - 1 }

  -- of the first byte b and the last byte z
  marked : (b z : ℕ) (r : Call Range) → (b < 128 → z ≡ b → r ≡ gives cut)
      → cond ((eqb b 96 && eqb z 96) || (eqb b 34 && eqb z 34)) r (gives s) ≡ gives (cond ((eqb b 96 || eqb b 34) && eqb z b) cut s)
  marked b z r f =
      decide b 96
      (λ e. decide z 96 (λ q. rw (e, q) (f (omega arith) (q ∙ sym e))) (λ q. rw (e, q)))
      (λ e. rw e (decide b 34 (λ p. decide z 34 (λ q. rw (p, q) (f (omega arith) (q ∙ sym p))) (λ q. rw (p, q))) (λ p. rw p)))

  inner-slice : 2 ≤ s.end - s.start → byte_at src s.start < 128 → byte_at src (s.end - 1) ≡ byte_at src s.start → slice src (s.start + 1) (s.end - 1) ≡ gives cut
  inner-slice g b z =
      let l : s.start < length src = omega (arith, y.within) in
      let m : s.end - 1 < length src = omega (arith, y.within) in
      slice_is src (s.start + 1) (s.end - 1) (omega arith)
      (boundary src (s.start + 1) (omega arith) (behind (byte_at src s.start) _ b (rw (from_byte src s.start l) at x.behind)))
      (low-boundary src (s.end - 1) m (rw z b))

  pub unquote-is : unquote src s ≡ cond (eqb s.end (s.start + 1) && (eqb (byte_at src s.start) 96 || eqb (byte_at src s.start) 34)) stops (gives (unquoted src s.start s.end))
  unfolding unquote unquoted
  unquote-is =
      ⊎_elim
      (λ (g : s.end - s.start < 2).
      ⊎_elim
      (λ (l : s.start < s.end).
      let e : s.end - 1 ≡ s.start = omega arith in
      rw (e, lt-leb 2 (s.end - s.start) g, lt-ltb s.start s.end l, eq-eqb s.end (s.start + 1) (omega arith), slice-stops src (s.start + 1) s.start (omega arith))
      (lone (eqb (byte_at src s.start) 96) (eqb (byte_at src s.start) 34)))
      (λ (l : s.end ≤ s.start).
      rw (lt-leb 2 (s.end - s.start) g, le-ltb s.start s.end l, ne_eqb s.end (s.start + 1) (λ q. omega arith)))
      (lt-or-le s.start s.end))
      (λ (g : 2 ≤ s.end - s.start).
      rw (le-leb 2 (s.end - s.start) g, lt-ltb s.start s.end (omega arith), ne_eqb s.end (s.start + 1) (λ q. omega arith))
      (marked (byte_at src s.start) (byte_at src (s.end - 1)) (slice src (s.start + 1) (s.end - 1)) (inner-slice g)))
      (lt-or-le (s.end - s.start) 2)
    where
      lone : (a b : Bool) → cond ((a && a) || (b && b)) stops (gives s) ≡ cond (a || b) stops (gives s)
      lone true b = refl
      lone false true = refl
      lone false false = refl

-- ---- the tokens of a table

-- a token's text is given, and its name without its quotes is document 01's, but that a lone mark stops
pub record ReadAt (src : List ℕ) (t : Rec) : Type 0 where
  pub text : text_of src t ≡ gives (span t)
  pub name : unquote src (span t) ≡ cond (is_lone src t) stops (gives (unquoted src t.start t.end))

-- so of every token among siblings and below them
unfoldable pub Reads : List ℕ → Forest → Type 0
Reads src nil = Unit
Reads src (token t rest) = ReadAt src t × Reads src rest
Reads src (node r below rest) = Reads src below × Reads src rest

read_at : (src : List ℕ) (t : Rec) → t.start ≤ t.end → Between src t.start → Between src t.end → ReadAt src t
unfolding is_lone
read_at src t h x y =
    record {
      text = slice_is src t.start t.end h (boundary src t.start x.within x.behind) (boundary src t.end y.within y.behind);
      name = unquote-is src (span t) h x y;
    }

module _ {source t : List ℕ} (ok : verdict t (length source) 0 ≡ Ok tt) (ask : Askable source t) where
  tidy : Tidy t (length source)
  tidy = admitted-tidy t (length source) 0 ok

  record-read : (i : ℕ) → i < count t → Token (kind_at t i) → ReadAt source (record_at t 0 i)
  unfolding record_at
  record-read i h k = let w = ask.cut i h k in read_at source (record_at t 0 i) (tidy.spans i h k).0 w.0 w.1

  pub texts : NoTextStops source t
  texts i h k = (record-read i h k).text

  token-kind : (i : ℕ) → i < count t → last_node < kind_at t i → Token (kind_at t i)
  token-kind i h k = ⊎_elim (λ n. absurd (omega arith)) (λ x. x) (tidy.kinds i h)

  pub reads : (i : ℕ) → Reads source (inside t i)
  unfolding Reads
  reads =
      inside-all t (λ (i : ℕ) (f : Forest). Reads source f) (λ i. tt) (λ i f r. r) (λ i f h k r. (record-read i h (token-kind i h k), r)) (λ i below f h e x y. (x, y))
