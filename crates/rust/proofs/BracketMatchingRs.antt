-- The Rust's bracket matching and document 01's say the same. The Rust's stack has its top last, document 01's first.
-- Assumes nothing.
use Prim.Native.Nat.{ℕ}
use mathlib.Core.Path.{◌≡◌, refl, sym, ap, ◌∙◌}
use mathlib.Core.Bool.{Bool, true, false, cond}
use mathlib.Core.List.{List, [], ◌∷◌, map, reverse, reverse-cons, reverse-reverse}
use lib.Dec.{eqb}
use Rattle.std.specs.Prelude.{None, Some}
use Rattle.records.specs.declared.record.Rec.{Rec}
use Rattle.records.specs.Kinds.{opening_round, opening_square, opening_curly}
use Rattle.records.specs.Table.{records}
use Rattle.forest.specs.Forest.{Forest, nil, token, node, kids}
use Rattle.text.specs.Text.{bytes_of}
use Rattle.brackets.specs.Brackets.{fits, closed, stack_step, left, stack_left, index_of, holding, last_opener, hint_of}
use Rattle.path.specs.Path.{one_of}
use Rattle.rust.specs.Rust.{push, last, pop, find}
use Rattle.rust.specs.BracketMatchingRs.{matches, pop_matching, bracket, collect_brackets, closer, find_opener, enrich, hint, BracketMatchingRs}
use Rattle.rust.proofs.KindLists.{range-list}

last-push : {A : Type 0} (xs : List A) (x : A) → last (push xs x) ≡ Some x
unfolding last
last-push [] x = refl
last-push (y ∷ []) x = refl
last-push (y ∷ z ∷ xs) x = last-push (z ∷ xs) x

pop-push : {A : Type 0} (xs : List A) (x : A) → pop (push xs x) ≡ xs
unfolding pop
pop-push [] x = refl
pop-push (y ∷ []) x = refl
pop-push (y ∷ z ∷ xs) x = rw (pop-push (z ∷ xs) x)

-- a closer
close-same : (k : ℕ) (s : List Rec) → pop_matching k (reverse s) (last (reverse s)) ≡ reverse (closed s k)
unfolding pop_matching closed last matches fits
close-same k [] = refl
close-same k (o ∷ s) = rw (reverse-cons o s, last-push (reverse s) o, pop-push (reverse s) o) (go (fits o.kind k))
  where
    go : (b : Bool) → cond b (reverse s) (push (reverse s) o) ≡ reverse (cond b s (o ∷ s))
    go true = refl
    go false = sym (reverse-cons o s)

-- a token
bracket-same : (t : Rec) (s : List Rec) → bracket t (reverse s) ≡ reverse (stack_step s t)
unfolding bracket stack_step
bracket-same t s =
    rw (range-list 2 137 t.kind, range-list 2 140 t.kind, close-same t.kind s)
    (go (one_of (137 ∷ 138 ∷ 139 ∷ []) t.kind) (one_of (140 ∷ 141 ∷ 142 ∷ []) t.kind))
  where
    go : (b c : Bool) → cond b (push (reverse s) t) (cond c (reverse (closed s t.kind)) (reverse s)) ≡ reverse (cond b (t ∷ s) (cond c (closed s t.kind) s))
    go true c = sym (reverse-cons t s)
    go false true = refl
    go false false = refl

collect-same : (f : Forest) (s : List Rec) → collect_brackets f (reverse s) ≡ reverse (left s f)
unfolding collect_brackets left
collect-same nil s = refl
collect-same (token t rest) s = rw (bracket-same t s) (collect-same rest (stack_step s t))
collect-same (node r below rest) s = rw (collect-same below s) (collect-same rest (left s below))

-- ---- the answers

find-same : (k : ℕ) (s : List Rec) → hint (find (λ (b : Rec). eqb b.kind k) s) ≡ last_opener k s
unfolding find last_opener hint
find-same k [] = refl
find-same k (o ∷ s) = go (eqb o.kind k) (find-same k s)
  where
    go : (b : Bool) → hint (find (λ (b : Rec). eqb b.kind k) s) ≡ last_opener k s
        → hint (cond b (Some o) (find (λ (b : Rec). eqb b.kind k) s)) ≡ cond b (Some o.index) (last_opener k s)
    go true ih = refl
    go false ih = ih

hint-same : (m : List ℕ) (s : List Rec) → hint (find_opener (reverse s) (closer m)) ≡ hint_of m s
unfolding closer hint_of find_opener hint
hint-same m s =
    go (holding (bytes_of "expected )") m) (holding (bytes_of "expected ]") m) (holding (bytes_of "expected }") m)
  where
    opener : (k : ℕ) → hint (find_opener (reverse s) (Some k)) ≡ last_opener k s
    opener k = rw (reverse-reverse s) (find-same k s)

    go : (a b c : Bool) → hint (find_opener (reverse s) (cond a (Some opening_round) (cond b (Some opening_square) (cond c (Some opening_curly) None))))
        ≡ cond a (last_opener opening_round s) (cond b (last_opener opening_square s) (cond c (last_opener opening_curly s) None))
    go true b c = opener opening_round
    go false true c = opener opening_square
    go false false true = opener opening_curly
    go false false false = refl

pub bracket-matching-rs : (t : List ℕ) → BracketMatchingRs t
unfolding enrich
bracket-matching-rs t =
    record {
      openers-left = ap (map index_of) (collect-same (kids (records 0 t)) []);
      bracket-hint = λ m. ap (λ (l : List Rec). hint (find_opener l (closer m))) (collect-same (kids (records 0 t)) []) ∙ hint-same m (stack_left t);
    }
