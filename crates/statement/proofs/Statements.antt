-- The enclosing statement: the search from record 0, and what it finds.
--     none-exactly    none is given exactly if no candidate exists
--     given-first     otherwise the node given is the first innermost candidate in the document
-- Assumes nothing.
use Prim.Native.Nat.{ℕ}
use mathlib.Core.Path.{◌≡◌, refl, sym, ap, ◌∙◌}
use mathlib.Core.Logic.{⊎_elim}
use mathlib.Core.Bool.{Bool, true, false, cond}
use mathlib.Core.List.Memᴰ
use mathlib.Core.List.{List, [], ◌∷◌, ◌++◌, append_assoc, Memᴰ}
use native.Mathlib.Omega.{arith}
use Rattle.std.specs.Prelude.{Ok, Err, Result, Option, Some, None}
use Rattle.lent.specs.declared.refusal.Refusal.{Refusal}
use Rattle.lent.specs.Verdicts.{Verdict}
use Rattle.records.specs.declared.record.Rec.{Rec}
use Rattle.records.specs.Table.{kind_at, start_at, end_at, record_at, records}
use Rattle.forest.specs.Forest.{Forest, nil, token, node, kids}
use Rattle.forest.specs.Places.{Place, places, nodes_of}
use Rattle.records.specs.Ranges.{spans, holds}
use Rattle.statement.specs.Statement.{is_statement, itself, or_else, first_find, enclosing_at, Hold, Innermost, FirstInnermost, NoCandidate}

-- ---- the search from record 0

module _ (t : List ℕ) (o : ℕ) where
  else-none : (e : Option ℕ) → or_else e None ≡ e
  unfolding or_else
  else-none None = refl
  else-none (Some n) = refl

  pub root-holds : {x y : Option ℕ} → spans o (start_at t 0) (end_at t 0) ≡ true → x ≡ first_find o (kids (records 0 t))
      → y ≡ or_else x (itself (kind_at t 0) 0) → y ≡ enclosing_at t o
  unfolding enclosing_at first_find record_at
  root-holds h e q = rw (h, ← e, ← q) (sym (else-none _))

  pub root-outside : spans o (start_at t 0) (end_at t 0) ≡ false → None ≡ enclosing_at t o
  unfolding enclosing_at first_find record_at or_else
  root-outside h = rw h

-- ---- what the search finds

above_holds : (o : ℕ) (f : Forest) (above : List Rec) (q : Place) → Memᴰ q (places above f) → Hold o q.above → Hold o above
unfolding places
above_holds o nil above q m h = absurd (Memᴰ.not-nil m)
above_holds o (token r rest) above q m h = above_holds o rest above q m h
above_holds o (node r below rest) above q m h =
    ⊎_elim
    (λ e. rw e at h)
    (λ n.
    ⊎_elim
    (λ i. tail (above_holds o below (r ∷ above) q i h))
    (λ i. above_holds o rest above q i h)
    (Memᴰ.append_cases (places (r ∷ above) below) n))
    (Memᴰ.cases_cons m)
  where
    tail : Hold o (r ∷ above) → Hold o above
    tail h = unfold Hold in h.1

clash : true ≡ false → ⊥
clash e = let z : ◌≡◌ {A = ℕ} 0 1 = cc in omega arith

module _ (o : ℕ) where
  -- what a search among siblings finds of the nodes there
  unfoldable Finds : Option ℕ → List Place → Type 0
  Finds None ps = NoCandidate o ps
  Finds (Some n) ps = FirstInnermost o ps n

  -- nodes that have no innermost candidate in front of others
  in-front : (xs : List Place) (e : Option ℕ) (ps : List Place) → NoCandidate o xs → Finds e ps → Finds e (xs ++ ps)
  unfolding Finds
  in-front xs None ps n f = λ q m. ⊎_elim (n q) (f q) (Memᴰ.append_cases xs m)
  in-front xs (Some k) ps n f =
      record {
        before = xs ++ f.before;
        it = f.it;
        after = f.after;
        whole = rw f.whole (sym (append_assoc xs f.before (f.it ∷ f.after)));
        number = f.number;
        innermost = f.innermost;
        none_before = λ q m i. ⊎_elim (λ a. n q a i.candidate) (λ a. f.none_before q a i) (Memᴰ.append_cases xs m);
      }

  module _ (r : Rec) (below : Forest) (above : List Rec) where
    abbrev here : Place
    here = record { self = r; below = below; above = above }

    -- a node that does not hold the offset: none of its nodes is a candidate
    outside : holds o r ≡ false → NoCandidate o (here ∷ places (r ∷ above) below)
    outside e q m c =
        ⊎_elim
        (λ i. clash (sym (rw i at c.holding) ∙ e))
        (λ i. clash (sym (first (above_holds o below (r ∷ above) q i c.above)) ∙ e))
        (Memᴰ.cases_cons m)
      where
        first : Hold o (r ∷ above) → holds o r ≡ true
        first h = unfold Hold in h.0

    -- one that holds it and has no candidate inside: itself, if it is a statement
    alone : holds o r ≡ true → Hold o above → NoCandidate o (places (r ∷ above) below) → Finds (itself r.kind r.index) (here ∷ places (r ∷ above) below)
    unfolding Finds
    alone e a n = go (is_statement r.kind) refl
      where
        go : (b : Bool) → is_statement r.kind ≡ b → Finds (cond b (Some r.index) None) (here ∷ places (r ∷ above) below)
        go true s =
            record {
              before = [];
              it = here;
              after = places (r ∷ above) below;
              whole = refl;
              number = refl;
              innermost = record { candidate = record { statement = s; holding = e; above = a }; none_inside = n };
              none_before = λ q m. absurd (Memᴰ.not-nil m);
            }
        go false s = λ q m c. ⊎_elim (λ i. clash (sym (rw i at c.statement) ∙ s)) (λ i. n q i c) (Memᴰ.cases_cons m)

    -- what is found inside it is found of it and those inside
    within : (n : ℕ) → FirstInnermost o (places (r ∷ above) below) n → FirstInnermost o (here ∷ places (r ∷ above) below) n
    within n f =
        record {
          before = here ∷ f.before;
          it = f.it;
          after = f.after;
          whole = ap (λ (l : List Place). here ∷ l) f.whole;
          number = f.number;
          innermost = f.innermost;
          none_before = λ q m i. ⊎_elim (λ a. inner q a i) (λ a. f.none_before q a i) (Memᴰ.cases_cons m);
        }
      where
        member : Memᴰ f.it (places (r ∷ above) below)
        member = rw f.whole (Memᴰ.append_right f.before (Memᴰ.head refl))

        inner : (q : Place) → q ≡ here → Innermost o q → ⊥
        inner q a i = (rw a at i).none_inside f.it member f.innermost.candidate

    node-finds : (e : Option ℕ) → holds o r ≡ true → Hold o above → Finds e (places (r ∷ above) below)
        → Finds (or_else e (itself r.kind r.index)) (here ∷ places (r ∷ above) below)
    unfolding Finds or_else
    node-finds None h a f = alone h a f
    node-finds (Some k) h a f = within k f

  -- one after the other
  behind : (n : ℕ) (ps qs : List Place) → FirstInnermost o ps n → FirstInnermost o (ps ++ qs) n
  behind n ps qs f =
      record {
        before = f.before;
        it = f.it;
        after = f.after ++ qs;
        whole = rw f.whole (append_assoc f.before (f.it ∷ f.after) qs);
        number = f.number;
        innermost = f.innermost;
        none_before = f.none_before;
      }

  both : (d e : Option ℕ) (ps qs : List Place) → Finds d ps → Finds e qs → Finds (or_else d e) (ps ++ qs)
  unfolding Finds or_else
  both None e ps qs f g = in-front ps e qs f g
  both (Some n) e ps qs f g = behind n ps qs f

  finds : (f : Forest) (above : List Rec) → Hold o above → Finds (first_find o f) (places above f)
  unfolding first_find places Finds Hold
  finds nil above a = λ q m. absurd (Memᴰ.not-nil m)
  finds (token r rest) above a = finds rest above a
  finds (node r below rest) above a =
      both _ (first_find o rest) (here r below above ∷ places (r ∷ above) below) (places above rest) (go (holds o r) refl (λ h. finds below (r ∷ above) (h, a))) (finds rest above a)
    where
      go : (b : Bool) → holds o r ≡ b → (holds o r ≡ true → Finds (first_find o below) (places (r ∷ above) below))
          → Finds (cond b (or_else (first_find o below) (itself r.kind r.index)) None) (here r below above ∷ places (r ∷ above) below)
      go true h f = node-finds r below above (first_find o below) h a (f h)
      go false h f = outside r below above h

module _ (t : List ℕ) (o : ℕ) where
  table-finds : Finds o (enclosing_at t o) (nodes_of t)
  unfolding enclosing_at Hold
  table-finds = finds o _ [] tt

  pub given-first : (n : ℕ) → enclosing_at t o ≡ Some n → FirstInnermost o (nodes_of t) n
  unfolding Finds
  given-first n e = rw e at table-finds

  pub none-exactly : (enclosing_at t o ≡ None → NoCandidate o (nodes_of t)) × (NoCandidate o (nodes_of t) → enclosing_at t o ≡ None)
  unfolding Finds
  none-exactly = ((λ e. rw e at table-finds), λ n. go n (enclosing_at t o) table-finds)
    where
      go : NoCandidate o (nodes_of t) → (e : Option ℕ) → Finds o e (nodes_of t) → e ≡ None
      go n None f = refl
      go n (Some k) f = absurd (n f.it (rw f.whole (Memᴰ.append_right f.before (Memᴰ.head refl))) f.innermost.candidate)
