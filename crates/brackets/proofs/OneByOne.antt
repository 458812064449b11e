-- The stack of an admitted table's tree is that of its records one after the other: a node does nothing to it, and the records stand in document order.
-- Assumes nothing.
use Prim.Native.Nat.{ℕ, zero, suc, ◌+◌, ◌-◌, ◌≤◌, ◌<◌}
use mathlib.Core.Path.{◌≡◌, refl, sym, ap, ◌∙◌}
use mathlib.Core.List.{List, [], ◌∷◌, ◌++◌}
use native.Mathlib.Omega.{arith}
use native.Mathlib.Nat.{zero-add, add-zero}
use native.Mathlib.Numerals.{add-one}
use borrow.Author.Tests.{leb-true, lt-leb}
use Rattle.std.specs.Prelude.{Ok}
use Rattle.records.specs.Kinds.{last_node}
use Rattle.records.specs.Table.{count, kind_at, record_at, run, from, records, part}
use Rattle.table.specs.Rules.{verdict}
use Rattle.forest.specs.Forest.{Forest, nil, token, node, kids}
use Rattle.forest.specs.Sense.{Tidy, Linked, tree_of, in_order, by_depth}
use Rattle.forest.proofs.Laws.{count-part, kind-part}
use Rattle.forest.proofs.Owned.{Own, tree-own}
use Rattle.forest.proofs.Sense.{admitted-tidy, whole-tree}
use Rattle.brackets.specs.inner.BracketStack.{stepped_by, stepped_over, left_by, Stacks}

-- a node does nothing to the stack
passed : (st : List ℕ) (k i : ℕ) → k ≤ last_node → stepped_by st k i ≡ st
unfolding stepped_by
passed st k i h = rw (lt-leb 137 k (omega arith), lt-leb 140 k (omega arith))

-- no record, and one more
pub over_none : (st s : List ℕ) (base : ℕ) → st ≡ stepped_over st s base 0
unfolding stepped_over
over_none st s base = refl

pub over-next : (st s : List ℕ) (base n : ℕ) → stepped_over st s base (n + 1) ≡ stepped_by (stepped_over st s base n) (kind_at s n) (base + n)
unfolding stepped_over
over-next st s base n = rw (add-one n)

-- ---- the tree's records in document order

unfoldable steps : List ℕ → List Linked → List ℕ
steps st [] = st
steps st (l ∷ ls) = steps (stepped_by st l.self.kind l.self.index) ls

steps-append : (xs ys : List Linked) (st : List ℕ) → steps st (xs ++ ys) ≡ steps (steps st xs) ys
unfolding steps
steps-append [] ys st = refl
steps-append (x ∷ xs) ys st = steps-append xs ys (stepped_by st x.self.kind x.self.index)

module _ (t : List ℕ) where
  left_by-in_order : (p : ℕ) (f : Forest) (st : List ℕ) → Own t f → left_by st f ≡ steps st (in_order p f)
  unfolding left_by in_order steps Own
  left_by-in_order p nil st w = refl
  left_by-in_order p (token r rest) st w = left_by-in_order p rest (stepped_by st r.kind r.index) w.1
  left_by-in_order p (node r below rest) st w =
      let a : List Linked = in_order r.index below in
      let b : List Linked = in_order p rest in
      left_by-in_order p rest (left_by st below) w.2
      ∙ ap (λ (x : List ℕ). steps x b) (left_by-in_order r.index below st w.1)
      ∙ sym (steps-append a b st)
      ∙ ap (λ (x : List ℕ). steps x (a ++ b)) (sym (passed st r.kind r.index (leb-true r.kind last_node w.0.0)))

  by_number : (n i : ℕ) → steps (stepped_over [] t 0 i) (by_depth t (run t 0 i n)) ≡ stepped_over [] t 0 (i + n)
  unfolding run by_depth steps record_at
  by_number zero i = rw (add-zero i)
  by_number (suc n) i =
      let e : i + suc n ≡ i + 1 + n = omega arith in
      ap (λ (x : List ℕ). steps x (by_depth t (run t 0 (i + 1) n))) (sym (over-next [] t 0 i)) ∙ by_number n (i + 1) ∙ ap (stepped_over [] t 0) (sym e)

  -- ---- a part of the table

  pub over-part : (i e n : ℕ) → i ≤ e → e ≤ count t → n ≤ e - i → stepped_over (stepped_over [] t 0 i) (part t i e) i n ≡ stepped_over [] t 0 (i + n)
  unfolding stepped_over
  over-part i e zero a b h = rw (add-zero i)
  over-part i e (suc n) a b h =
      let z : i + suc n ≡ i + n + 1 = omega arith in
      let o : 0 + (i + n) ≡ i + n = zero-add (i + n) in
      rw (over-part i e n a b (omega arith), kind-part t 0 i e a b n (omega arith), z, over-next [] t 0 (i + n), o)

-- ---- what the loop over record 0's children does

pub stack-child : (t : List ℕ) (i e : ℕ) {s st x : List ℕ} {k : ℕ} → i < e → e ≤ count t → s ≡ part t i e → k ≡ count s
    → x ≡ stepped_over st s i (count s) → st ≡ stepped_over [] t 0 i → x ≡ stepped_over [] t 0 (i + k)
stack-child t i e a b s k q h =
    q ∙ rw (k, h, s) (over-part t i e (count (part t i e)) (omega arith) b (omega (arith, count-part t 0 i e (omega arith) b)))

pub stack-last : (t : List ℕ) (i : ℕ) {x : List ℕ} → Stacks t → i ≡ count t → x ≡ stepped_over [] t 0 i → x ≡ left_by [] (kids (records 0 t))
stack-last t i w e q = q ∙ rw e (sym w.flat)

-- THE THEOREM
pub admitted-stacks : (t : List ℕ) (n m : ℕ) → verdict t n m ≡ Ok tt → Stacks t
admitted-stacks t n m v = record { first = first; flat = flat }
  where
    w : Tidy t n
    w = admitted-tidy t n m v

    first : stepped_over [] t 0 1 ≡ []
    first = over-next [] t 0 0 ∙ passed (stepped_over [] t 0 0) (kind_at t 0) (0 + 0) w.top.0 ∙ (unfold stepped_over in refl)

    flat : left_by [] (kids (records 0 t)) ≡ stepped_over [] t 0 (count t)
    flat =
        let top : left_by [] (tree_of t) ≡ left_by [] (kids (records 0 t)) = (unfold left_by in refl) in
        let own : left_by [] (tree_of t) ≡ steps [] (in_order 0 (tree_of t)) = left_by-in_order t 0 (tree_of t) [] (tree-own t w.some w.top.0) in
        let last : steps [] (by_depth t (records 0 t)) ≡ stepped_over [] t 0 (0 + (count t - 0)) = (unfold from stepped_over in by_number t (count t - 0) 0) in
        let size : 0 + (count t - 0) ≡ count t = omega arith in
        sym top ∙ own ∙ ap (steps []) (whole-tree t n w) ∙ last ∙ ap (stepped_over [] t 0) size
