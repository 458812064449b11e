-- On an admitted table every number of a WITH name at the cursor fits 32 bits, and so does how many there are.
--     offered-fit, offered-few
-- Assumes nothing.
use Prim.Native.Nat.{ℕ, ◌+◌, ◌*◌, ◌≤◌, ◌<◌}
use mathlib.Core.Path.{◌≡◌, sym}
use mathlib.Core.Bool.{Bool, true, false, cond}
use mathlib.Core.List.{List, [], ◌∷◌, ◌++◌}
use native.Mathlib.Omega.{arith}
use lib.ListN.{length, length-append}
use Rattle.std.specs.Prelude.{Ok}
use Rattle.lent.specs.Numbers.{OfBytes}
use Rattle.lent.specs.Fit32.{AllFit32}
use Rattle.lent.proofs.Fit32.{fit-lists}
use Rattle.records.specs.Table.{count, kind_at}
use Rattle.conditions.specs.Conditions.{most_records}
use Rattle.table.specs.Rules.{verdict}
use Rattle.forest.specs.Above.{above}
use Rattle.forest.specs.Sense.{Tidy}
use Rattle.forest.proofs.Above.{AllBelow, below-chosen, above-below, above-deep}
use Rattle.forest.proofs.Sense.{admitted-tidy}
use Rattle.names.specs.Bindings.{binding_row}
use Rattle.path.specs.Path.{is_subquery}
use Rattle.statement.specs.Statement.{is_statement}
use Rattle.lists.specs.Scope.{with_names}
use Rattle.scope.proofs.Fitting.{with-names-fit, with-names-few}
use Rattle.seen.specs.Seen.{seen_of}
use Rattle.seen.proofs.Fitting.{seen-fits, seen_few}
use Rattle.enclosing.specs.Enclosing.{queries, some_query, beyond, statement_among, last_root, roots_among, enclosing_roots}
use Rattle.enclosing.specs.Offered.{seen_of_all, offered_in}

-- ---- the enclosing roots are records of the table

module _ (t : List ℕ) (m : ℕ) (some : 0 < m) where
  both_below : (xs ys : List ℕ) → AllBelow m xs → AllBelow m ys → AllBelow m (xs ++ ys)
  unfolding AllBelow
  both_below [] ys p q = q
  both_below (x ∷ xs) ys p q = (p.0, both_below xs ys p.1 q)

  queries-below : (xs : List ℕ) → AllBelow m xs → AllBelow m (queries t xs)
  unfolding queries AllBelow
  queries-below [] w = tt
  queries-below (x ∷ xs) w = let on = queries-below xs w.1 in below-chosen m (is_subquery (kind_at t x)) (x ∷ queries t xs) (queries t xs) (w.0, on) on

  beyond-below : (xs : List ℕ) → AllBelow m xs → AllBelow m (beyond t xs)
  unfolding beyond AllBelow
  beyond-below [] w = tt
  beyond-below (x ∷ xs) w = below-chosen m (some_query t (x ∷ xs)) (beyond t xs) (x ∷ xs) (beyond-below xs w.1) w

  statement-below : (xs : List ℕ) → AllBelow m xs → statement_among t xs < m
  unfolding statement_among AllBelow
  statement-below [] w = some
  statement-below (x ∷ xs) w = go (is_statement (kind_at t x)) (statement-below xs w.1)
    where
      go : (b : Bool) → statement_among t xs < m → cond b x (statement_among t xs) < m
      go true h = w.0
      go false h = h

  last-below : (xs : List ℕ) → AllBelow m xs → AllBelow m (last_root t xs)
  unfolding last_root AllBelow
  last-below [] w = tt
  last-below (x ∷ xs) w = (statement-below (x ∷ xs) w, tt)

  enclosing-below : (n : ℕ) → n ≤ m → AllBelow m (enclosing_roots t n)
  unfolding enclosing_roots roots_among
  enclosing-below n h =
      let w = above-below t n m h in
      below-chosen m (is_subquery (kind_at t n)) _ [] (both_below (queries t (above t n)) (last_root t (beyond t (above t n))) (queries-below (above t n) w) (last-below (beyond t (above t n)) (beyond-below (above t n) w)))
      (unfold AllBelow in tt)

-- ---- and no more than there are nodes above, and one

queries-few : (t xs : List ℕ) → length (queries t xs) ≤ length xs
unfolding queries
queries-few t [] = omega arith
queries-few t (x ∷ xs) = go (is_subquery (kind_at t x)) (queries-few t xs)
  where
    go : (b : Bool) → length (queries t xs) ≤ length xs → length (cond b (x ∷ queries t xs) (queries t xs)) ≤ length (x ∷ xs)
    go true h = omega arith
    go false h = omega arith

last_one : (t xs : List ℕ) → length (last_root t xs) ≤ 1
unfolding last_root
last_one t [] = omega arith
last_one t (x ∷ xs) = omega arith

enclosing-few : (t : List ℕ) (n : ℕ) → length (enclosing_roots t n) ≤ length (above t n) + 1
unfolding enclosing_roots roots_among
enclosing-few t n = go (is_subquery (kind_at t n))
  where
    go : (b : Bool) → length (cond b (queries t (above t n) ++ last_root t (beyond t (above t n))) []) ≤ length (above t n) + 1
    go true =
        omega (arith, length-append (queries t (above t n)) (last_root t (beyond t (above t n))), queries-few t (above t n), last_one t (beyond t (above t n)))
    go false = omega arith

-- ---- the names

module _ (src t : List ℕ) (l m : ℕ) (a : Ok tt ≡ verdict t l m) where
  all_fit : OfBytes t → (n : ℕ) (is : List ℕ) → AllBelow (count t) is → AllFit32 binding_row (seen_of_all src t n is)
  unfolding seen_of_all AllBelow
  all_fit b n [] w = (unfold AllFit32 in tt)
  all_fit b n (i ∷ is) w = fit-lists binding_row (seen_of src t n i) (seen_of_all src t n is) (seen-fits src t l m n i a w.0 b) (all_fit b n is w.1)

  all-few : (n : ℕ) (is : List ℕ) → AllBelow (count t) is → length (seen_of_all src t n is) ≤ most_records * most_records * length is
  unfolding seen_of_all AllBelow
  all-few n [] w = omega arith
  all-few n (i ∷ is) w = omega (arith, length-append (seen_of src t n i) (seen_of_all src t n is), seen_few src t l m n i a w.0, all-few n is w.1)

  module _ (n : ℕ) (h : n < count t) where
    tidy : Tidy t l
    tidy = admitted-tidy t l m (sym a)

    roots : AllBelow (count t) (enclosing_roots t n)
    roots = enclosing-below t (count t) tidy.some n (omega arith)

    pub offered-fit : OfBytes t → AllFit32 binding_row (offered_in src t n)
    unfolding offered_in
    offered-fit b = fit-lists binding_row (with_names src t n) (seen_of_all src t n (enclosing_roots t n)) (with-names-fit src t l m n a h b) (all_fit b n (enclosing_roots t n) roots)

    -- the root's own, and those of at most 64 around it
    pub offered-few : length (offered_in src t n) ≤ most_records * most_records * 65
    unfolding offered_in
    offered-few =
        omega (arith, length-append (with_names src t n) (seen_of_all src t n (enclosing_roots t n)), with-names-few src t l m n a h, all-few n (enclosing_roots t n) roots, enclosing-few t n, above-deep t l tidy n h, tidy.depths n h)
