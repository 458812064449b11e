-- All cursors of a shared page:
--     one_by_one    one call with a list of offsets gives what as many single calls give, or is refused as they are
-- Assumes nothing.
use Prim.Native.Nat.{ℕ, zero, suc, ◌+◌, ◌*◌, ◌≤◌, ◌<◌}
use mathlib.Core.Path.{◌≡◌, sym, ap, ◌∙◌}
use mathlib.Core.List.{List, [], ◌∷◌, ◌++◌, map, append_assoc, append-nil}
use native.Mathlib.Omega.{arith}
use lib.ListN.{length, length-map, get_or, take, drop}
use lib.Seq.{drop-append-add, take-append_seam}
use Rattle.records.specs.Table.{count}
use Rattle.lent.specs.Lists.{row_bytes, list_bytes}
use Rattle.table.specs.Exactly.{Broken}
use Rattle.lent.proofs.Writes.{length-row}
use Rattle.contexts.specs.declared.context.CursorContext.{CursorContext as Typed}
use Rattle.contexts.specs.Context.{context_row, context_bytes}
use Rattle.cursor.specs.CursorContext.{context_at}
use Rattle.cursors.specs.Cursors.{offsets_of, contexts_at}
use Rattle.replies.specs.Reply.{packed, answered}
use Rattle.demands.specs.declared.Question.TheVariants.{CursorContext, CursorContexts}
use Rattle.demands.specs.Questions.{Asked, Matter, matter, answer_of, said_bytes}
use Rattle.demands.specs.Demand1.{Missing, Holds, of-table, of-offsets, of-name, of_room, place_in, First, RefusedFor, Answer}
use Rattle.demands.specs.Demand2.{Meets}
use Rattle.demands.specs.OneByOne.{entry_at, SinglyAt, Alike, RefusedAlike, OneByOne}
use Rattle.demands.proofs.Offsets.{no-offsets}
use Rattle.demands.proofs.Replies.{answered-free}
use Rattle.demands.proofs.Promises.{rows-bytes}

-- ---- an entry of a list of contexts

row-bytes : (c : Typed) → length (row_bytes (context_row c)) ≡ context_bytes
unfolding context_row
row-bytes c = length-row _

front : (c : Typed) (rest : List ℕ) → take context_bytes (row_bytes (context_row c) ++ rest) ≡ row_bytes (context_row c)
front c rest = rw (row-bytes c) at (take-append_seam (row_bytes (context_row c)) rest)

module _ (f : ℕ → Typed) where
  entry : (os : List ℕ) (i : ℕ) (rest : List ℕ) → i < length os → entry_at i (list_bytes context_row (map f os) ++ rest) ≡ row_bytes (context_row (f (get_or os i 0)))
  unfolding list_bytes
  entry [] i rest h = absurd (omega arith)
  entry (x ∷ os) zero rest h =
      let A : List ℕ = row_bytes (context_row (f x)) in
      let B : List ℕ = list_bytes context_row (map f os) in
      ap (take context_bytes) (append_assoc A B rest) ∙ front (f x) (B ++ rest)
  entry (x ∷ os) (suc i) rest h =
      let A : List ℕ = row_bytes (context_row (f x)) in
      let B : List ℕ = list_bytes context_row (map f os) in
      let e : context_bytes * suc i ≡ context_bytes + context_bytes * i = omega arith in
      let d : drop (context_bytes + context_bytes * i) (A ++ (B ++ rest)) ≡ drop (context_bytes * i) (B ++ rest) = rw (row-bytes (f x)) at (drop-append-add A (B ++ rest) (context_bytes * i)) in
      rw (e, append_assoc A B rest, d) (entry os i rest (omega arith))

-- ---- a single question beside the call

module _ (a : Asked) (i : ℕ) (b : Asked) (s : SinglyAt a i b) where
  abbrev one : Matter
  one = matter CursorContext b

  -- what breaks a rule of the table does so in both
  same-table : {k d : ℕ} → Broken b.table (length b.source) 0 k d → Broken a.table (length a.source) 0 k d
  same-table x = rw (s.table, s.source) at x

  abbrev typed : Typed
  typed = context_at b.source b.table b.offset

  one-said : said_bytes one.said ≡ row_bytes (context_row typed)
  unfolding matter said_bytes list_bytes
  one-said = append-nil (row_bytes (context_row typed))

  no_room : length b.out < length (said_bytes one.said) → ⊥
  no_room h = omega (arith, s.room, h, ap length one-said, row-bytes typed)

  single-free : ((k d : ℕ) → Broken a.table (length a.source) 0 k d → ⊥) → (k d : ℕ) → Holds b one k d → ⊥
  unfolding matter Missing
  single-free f k d (of-table x) = f k d (same-table x)
  single-free f k d (of-offsets e z x) = no-offsets x
  single-free f k d (of-name e z x) = x
  single-free f k d (of_room e z h) = no_room h

  same_typed : typed ≡ context_at a.source a.table (get_or (offsets_of a.offsets) i 0)
  same_typed = rw (s.table, s.source, s.offset)

  module _ {r : ℕ} {o : List ℕ} (x : Meets CursorContext b r o) where
    single-said : ((k d : ℕ) → Holds b one k d → ⊥) → (r ≡ packed answered 1) × (entry_at 0 o ≡ row_bytes (context_row typed))
    unfolding matter answer_of
    single-said f =
        let A : List ℕ = row_bytes (context_row typed) in
        let rest : List ℕ = drop (length A) b.out in
        let e : o ≡ A ++ rest = rw one-said at (x.1.entries f) in
        (x.1.answer f, ap (take context_bytes) e ∙ front typed rest)

    -- where the call is refused by a rule of the table, and not for its offsets or its room
    single-refused : {k d : ℕ} → First a (matter CursorContexts a) k d → Broken a.table (length a.source) 0 k d → RefusedFor r k d
    unfolding matter
    single-refused {k} {d} f y = (x.0.exactly k d).1 (record { holds = of-table here; none_before = go })
      where
        here : Broken b.table (length b.source) 0 k d
        here = rw (s.table, s.source) y

        go : (k' d' : ℕ) → Holds b one k' d' → place_in (count b.table) k d ≤ place_in (count b.table) k' d'
        go k' d' (of-table z) = rw s.table (f.none_before k' d' (of-table (same-table z)))
        go k' d' (of-offsets e z w) = absurd (no-offsets w)
        go k' d' (of-name e z w) = absurd (unfold Missing in w)
        go k' d' (of_room e z h) = absurd (no_room h)

-- ---- the call

module _ (a : Asked) {r : ℕ} {o : List ℕ} (x : Meets CursorContexts a r o) where
  abbrev all : Matter
  all = matter CursorContexts a

  alike : Answer r → Alike a r o
  unfolding matter answer_of said_bytes
  alike y =
      let f = answered-free CursorContexts a x.0 y in
      let es : List Typed = contexts_at a.source a.table a.offsets in
      record {
        many = x.1.answer f ∙ rw (length-map es context_row, length-map (offsets_of a.offsets) (context_at a.source a.table));
        single = λ i h b s r' o' z.
            let w = single-said a i b s z (single-free a i b s (λ k d q. f k d (of-table q))) in
            let e = rw (rows-bytes context_row es) at (x.1.entries f) in
            (w.0, w.1 ∙ rw (same_typed a i b s) (sym (ap (entry_at i) e ∙ entry (context_at a.source a.table) (offsets_of a.offsets) i _ h)));
      }

  refused-alike : (k d : ℕ) → RefusedFor r k d → RefusedAlike a k d
  unfolding matter
  refused-alike k d y not-10 not-7 i b s r' o' z = go f.holds
    where
      f : First a all k d
      f = (x.0.exactly k d).0 y

      go : Holds a all k d → RefusedFor r' k d
      go (of-table q) = single-refused a i b s z f q
      go (of-offsets e u w) = absurd (not-10 e)
      go (of-name e u w) = absurd (unfold Missing in w)
      go (of_room e u w) = absurd (not-7 e)

-- THE THEOREM
pub one_by_one : OneByOne
one_by_one a r o x = (alike a x, refused-alike a x)
