-- Run the statement under the cursor:
--     picks       of every admitted table and every offset, the question says what the key picks
--     one-pick    the words of `Picks` determine it
--     pressed     and the reply to it is an answer that says so
-- Assumes nothing.
use Prim.Native.Nat.{ℕ, zero, suc, ◌+◌, ◌≤◌}
use mathlib.Core.Path.{◌≡◌, refl, sym, ap, ◌∙◌}
use mathlib.Core.Logic.{⊎_elim}
use mathlib.Core.Bool.{true}
use mathlib.Core.List.{List, [], ◌∷◌, ◌++◌, Memᴰ}
use native.Mathlib.Omega.{arith}
use native.Mathlib.Nat.{zero-add}
use borrow.Author.Tests.{le-leb, lt-leb, leb-true}
use lib.ListN.{length}
use lib.Dec.{leb}
use Rattle.std.specs.Prelude.{Ok, Option, Some, None}
use Rattle.records.specs.declared.record.Rec.{Rec}
use Rattle.records.specs.Kinds.{last_node, select_statement, describe_statement}
use Rattle.records.specs.Table.{kind_at, record_at, run, from}
use Rattle.forest.specs.Forest.{Forest, nil, token, node}
use Rattle.table.specs.Rules.{verdict}
use Rattle.records.specs.Ranges.{holds}
use Rattle.forest.specs.Sense.{Tidy, tree_of}
use Rattle.forest.specs.Places.{Place, places, nodes_of, selves, node_records}
use Rattle.lent.proofs.Cases.{eq-or-not, both}
use Rattle.forest.proofs.Laws.{node-or-token}
use Rattle.forest.proofs.Sense.{admitted-tidy}
use Rattle.forest.proofs.Places.{stands, nodes-in-order}
use Rattle.table.proofs.Exactly.{admitted-exactly}
use Rattle.statement.specs.Statement.{enclosing_at, Hold, Candidate, inside_of, Innermost, FirstInnermost, NoCandidate}
use Rattle.statement.proofs.Statements.{given-first, none-exactly}
use Rattle.replies.specs.Reply.{no_record as nothing, record_number}
use Rattle.demands.specs.declared.Question.TheVariants.{EnclosingStatement}
use Rattle.demands.specs.Questions.{Asked, number, matter, answer_of, said_bytes}
use Rattle.demands.specs.Demand1.{Missing, Holds, of-table, of-offsets, of-name, of_room}
use Rattle.demands.specs.Demand2.{Demand2}
use Rattle.demands.proofs.Offsets.{no-offsets}
use Rattle.demands.specs.Run.{Around, Runnable, RunnableAt, NoneInside, Picks, Pressed}

-- ---- the search's words and these

module _ (o : ℕ) where
  holds-around : (r : Rec) → holds o r ≡ true → Around o r
  holds-around r h =
      let b = both (leb r.start o) (leb o r.end) h in
      let f : r.start ≤ o = leb-true r.start o b.0 in
      let g : o ≤ r.end = leb-true o r.end b.1 in
      record { non-empty = omega arith; from = f; to = g }

  around-holds : (r : Rec) → Around o r → holds o r ≡ true
  around-holds r a = rw (le-leb r.start o a.from, le-leb o r.end a.to) refl

  all-around : (rs : List Rec) → Hold o rs → (r : Rec) → Memᴰ r rs → Around o r
  unfolding Hold
  all-around [] h r m = absurd (mathlib.Core.List.Memᴰ.not-nil m)
  all-around (x ∷ xs) h r m = ⊎_elim (λ e. rw e (holds-around x h.0)) (λ i. all-around xs h.1 r i) (mathlib.Core.List.Memᴰ.cases_cons m)

  all_held : (rs : List Rec) → ((r : Rec) → Memᴰ r rs → Around o r) → Hold o rs
  unfolding Hold
  all_held [] f = tt
  all_held (x ∷ xs) f = (around-holds x (f x (mathlib.Core.List.Memᴰ.head refl)), all_held xs (λ r m. f r (mathlib.Core.List.Memᴰ.tail m)))

  runnable : (t : List ℕ) (p : Place) → Memᴰ p (nodes_of t) → Candidate o p → Runnable t o p
  runnable t p m c =
      let b = both (leb select_statement p.self.kind) (leb p.self.kind describe_statement) c.statement in
      record {
        node = m;
        kind-from = leb-true select_statement p.self.kind b.0;
        kind-to = leb-true p.self.kind describe_statement b.1;
        holding = holds-around p.self c.holding;
        above = all-around p.above c.above;
      }

  candidate : (t : List ℕ) (p : Place) → Runnable t o p → Candidate o p
  candidate t p c =
      record {
        statement = rw (le-leb select_statement p.self.kind c.kind-from, le-leb p.self.kind describe_statement c.kind-to) refl;
        holding = around-holds p.self c.holding;
        above = all_held p.above c.above;
      }

-- what is inside a node of a tree is in the tree
inside-nodes : (above : List Rec) (f : Forest) (p q : Place) → Memᴰ p (places above f) → Memᴰ q (inside_of p) → Memᴰ q (places above f)
unfolding places
inside-nodes above nil p q m n = absurd (mathlib.Core.List.Memᴰ.not-nil m)
inside-nodes above (token r rest) p q m n = inside-nodes above rest p q m n
inside-nodes above (node r below rest) p q m n =
    ⊎_elim
    (λ e. mathlib.Core.List.Memᴰ.tail (mathlib.Core.List.Memᴰ.append_left (places above rest) (rw e at n)))
    (λ i.
    ⊎_elim
    (λ j. mathlib.Core.List.Memᴰ.tail (mathlib.Core.List.Memᴰ.append_left (places above rest) (inside-nodes (r ∷ above) below p q j n)))
    (λ j. mathlib.Core.List.Memᴰ.tail (mathlib.Core.List.Memᴰ.append_right (places (r ∷ above) below) (inside-nodes above rest p q j n)))
    (mathlib.Core.List.Memᴰ.append_cases (places (r ∷ above) below) i))
    (mathlib.Core.List.Memᴰ.cases_cons m)

-- ---- the nodes' numbers rise along the tree

-- numbers from b on, each more than the one before
unfoldable Ascends : ℕ → List Rec → Type 0
Ascends b [] = Unit
Ascends b (r ∷ rs) = (b ≤ r.index) × Ascends (r.index + 1) rs

ascends-less : (b c : ℕ) (rs : List Rec) → b ≤ c → Ascends c rs → Ascends b rs
unfolding Ascends
ascends-less b c [] h a = tt
ascends-less b c (r ∷ rs) h a = (omega (arith, a.0), a.1)

run-ascends : (t : List ℕ) (i n : ℕ) → Ascends i (node_records (run t 0 i n))
unfolding run record_at node_records Ascends
run-ascends t i zero = tt
run-ascends t i (suc n) =
    ⊎_elim
    (λ k. rw (le-leb (kind_at t i) last_node k) (omega arith, rw (zero-add i) (run-ascends t (i + 1) n)))
    (λ k. rw (lt-leb (kind_at t i) last_node k) (ascends-less i (i + 1) (node_records (run t 0 (i + 1) n)) (omega arith) (run-ascends t (i + 1) n)))
    (node-or-token (kind_at t i))

nodes-ascend : (t : List ℕ) (n : ℕ) → Tidy t n → Ascends 0 (selves (nodes_of t))
nodes-ascend t n w = rw (nodes-in-order t n w) (unfold from in run-ascends t 0 _)

at_least : (b : ℕ) (ps : List Place) (p : Place) → Ascends b (selves ps) → Memᴰ p ps → b ≤ p.self.index
unfolding Ascends selves
at_least b [] p a m = absurd (mathlib.Core.List.Memᴰ.not-nil m)
at_least b (x ∷ xs) p a m =
    ⊎_elim (λ e. rw e a.0) (λ i. omega (arith, a.0, at_least (x.self.index + 1) xs p a.1 i)) (mathlib.Core.List.Memᴰ.cases_cons m)

abbrev place_number : Place → ℕ
place_number p = p.self.index

-- so two nodes of one number are one
one-node : (b : ℕ) (ps : List Place) (p q : Place) → Ascends b (selves ps) → Memᴰ p ps → Memᴰ q ps → place_number p ≡ place_number q → p ≡ q
unfolding Ascends selves
one-node b [] p q a m n e = absurd (mathlib.Core.List.Memᴰ.not-nil m)
one-node b (x ∷ xs) p q a m n e =
    ⊎_elim
    (λ i.
    ⊎_elim
    (λ j. i ∙ sym j)
    (λ j. absurd (omega (arith, e, ap place_number i, at_least (x.self.index + 1) xs q a.1 j)))
    (mathlib.Core.List.Memᴰ.cases_cons n))
    (λ i.
    ⊎_elim
    (λ j. absurd (omega (arith, e, ap place_number j, at_least (x.self.index + 1) xs p a.1 i)))
    (λ j. one-node (x.self.index + 1) xs p q a.1 i j e)
    (mathlib.Core.List.Memᴰ.cases_cons n))
    (mathlib.Core.List.Memᴰ.cases_cons m)

-- and a node behind another has the higher number
number_behind : (b : ℕ) (before : List Place) (p : Place) (after : List Place) (q : Place) → Ascends b (selves (before ++ p ∷ after)) → Memᴰ q after
    → place_number p ≤ place_number q
unfolding Ascends selves
number_behind b [] p after q a m = omega (arith, at_least (p.self.index + 1) after q a.1 m)
number_behind b (x ∷ xs) p after q a m = number_behind (x.self.index + 1) xs p after q a.1 m

-- ---- what is picked

module _ (t : List ℕ) (n o : ℕ) (w : Tidy t n) where
  to-innermost : (p : Place) → Runnable t o p → NoneInside t o p → Innermost o p
  to-innermost p r f =
      record {
        candidate = candidate o t p r;
        none_inside = λ q m c. f q m (runnable o t q (inside-nodes [] (tree_of t) p q r.node m) c);
      }

  -- a node's number is no 4294967295
  small : (p : Place) → Memᴰ p (nodes_of t) → place_number p ≡ nothing → ⊥
  unfolding record_at
  small p m e =
      let s = stands t w.some p m in
      let q : place_number p ≡ 0 + s.at = ap (λ (r : Rec). r.index) s.self in
      omega (arith, e, q, s.within, w.few)

  none-picked : NoCandidate o (nodes_of t) → Picks t o nothing
  none-picked f =
      let none : (p : Place) → Runnable t o p → ⊥ = λ p r. f p r.node (candidate o t p r) in
      record {
        none-exactly = ((λ e. none), λ e. refl);
        candidate = λ h. absurd (h refl);
        none_inside = λ p r. absurd (none p r);
        first = λ p r. absurd (none p r);
      }

  module _ (x : ℕ) (f : FirstInnermost o (nodes_of t) x) where
    member : Memᴰ f.it (nodes_of t)
    member = rw f.whole (mathlib.Core.List.Memᴰ.append_right f.before (mathlib.Core.List.Memᴰ.head refl))

    given : Runnable t o f.it
    given = runnable o t f.it member f.innermost.candidate

    inside-none : (p : Place) → Runnable t o p → place_number p ≡ x → NoneInside t o p
    inside-none p r e q m c =
        let i : p ≡ f.it = one-node 0 (nodes_of t) p f.it (nodes-ascend t n w) r.node member (e ∙ sym f.number) in
        f.innermost.none_inside q (rw i at m) (candidate o t q c)

    comes-first : (p : Place) → Runnable t o p → NoneInside t o p → x ≤ place_number p
    comes-first p r g =
        let m : Memᴰ p (f.before ++ f.it ∷ f.after) = rw f.whole at r.node in
        let a : Ascends 0 (selves (f.before ++ f.it ∷ f.after)) = rw f.whole at (nodes-ascend t n w) in
        ⊎_elim
        (λ i. absurd (f.none_before p i (to-innermost p r g)))
        (λ i.
        ⊎_elim
        (λ e. omega (arith, f.number, ap place_number e))
        (λ j. omega (arith, f.number, number_behind 0 f.before f.it f.after p a j))
        (mathlib.Core.List.Memᴰ.cases_cons i))
        (mathlib.Core.List.Memᴰ.append_cases f.before m)

    one-picked : Picks t o x
    one-picked =
        record {
          none-exactly = ((λ e. absurd (small f.it member (f.number ∙ e))), λ g. absurd (g f.it given));
          candidate = λ h. record { it = f.it; number = f.number; runnable = given };
          none_inside = inside-none;
          first = comes-first;
        }

  search-picks : Picks t o (record_number (enclosing_at t o))
  search-picks = go (enclosing_at t o) refl
    where
      go : (e : Option ℕ) → enclosing_at t o ≡ e → Picks t o (record_number e)
      go None q = none-picked ((none-exactly t o).0 q)
      go (Some x) q = one-picked x (given-first t o x q)

pub picks : (a : Asked) → verdict a.table (length a.source) 0 ≡ Ok tt
    → (x : ℕ) × ((matter EnclosingStatement a).said ≡ number x) × Picks a.table a.offset x
unfolding matter
picks a ok = (
  record_number (enclosing_at a.table a.offset),
  refl,
  search-picks a.table (length a.source) a.offset (admitted-tidy a.table (length a.source) 0 ok),
)

-- ---- the words determine it

module _ (t : List ℕ) (o : ℕ) where
  -- of two that are picked, neither comes after the other
  no-later : (x y : ℕ) → Picks t o x → Picks t o y → (x ≡ nothing → ⊥) → y ≤ x
  no-later x y p q h =
      let c : RunnableAt t o x = p.candidate h in
      omega (arith, c.number, q.first c.it c.runnable (p.none_inside c.it c.runnable c.number))

  pub one-pick : (x y : ℕ) → Picks t o x → Picks t o y → x ≡ y
  one-pick x y p q =
      ⊎_elim
      (λ e. e ∙ sym (q.none-exactly.1 (p.none-exactly.0 e)))
      (λ h. omega (arith, no-later x y p q h, no-later y x q p (λ e. h (p.none-exactly.1 (q.none-exactly.0 e)))))
      (eq-or-not x nothing)

-- ---- the reply

module _ (a : Asked) (ok : verdict a.table (length a.source) 0 ≡ Ok tt) where
  -- no refusal's condition holds
  no-refusal : (k d : ℕ) → Holds a (matter EnclosingStatement a) k d → ⊥
  unfolding matter said_bytes
  no-refusal k d (of-table b) = (admitted-exactly a.table (length a.source) 0).0 ok k d b
  no-refusal k d (of-offsets e z b) = no-offsets b
  no-refusal k d (of-name e z b) = unfold Missing in b
  no-refusal k d (of_room e z h) = omega arith

  pub pressed : (reply : ℕ) (out : List ℕ) → Demand2 EnclosingStatement a reply out → Pressed a reply
  unfolding answer_of
  pressed reply out m =
      let p = picks a ok in
      record { picked = p.0; said = p.1; replied = rw p.1 at (m.answer no-refusal); picks = p.2 }
