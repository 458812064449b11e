-- On an admitted table the classes of its tree are those of its records in their order, a token's parent being the record whose number it carries.
-- Assumes nothing.
use Prim.Native.Nat.{ℕ, zero, suc, ◌+◌, ◌-◌, ◌<◌}
use mathlib.Core.Path.{◌≡◌, refl, sym, ap, ◌∙◌}
use mathlib.Core.Bool.{cond}
use mathlib.Core.List.{List, [], ◌∷◌, ◌++◌, append-nil, append_assoc}
use native.Mathlib.Omega.{arith}
use native.Mathlib.Nat.{zero-add, add-zero}
use Rattle.std.specs.Prelude.{Ok}
use Rattle.lent.specs.Verdicts.{Verdict}
use Rattle.records.specs.declared.record.Rec.{Rec}
use Rattle.records.specs.Kinds.{is_node}
use Rattle.records.specs.Table.{count, kind_at, depth_at, parent_at, record_at, run, from, records}
use Rattle.conditions.specs.Conditions.{nearest}
use Rattle.table.specs.Rules.{verdict}
use Rattle.forest.specs.Forest.{Forest, nil, token, node}
use Rattle.forest.specs.Sense.{Tidy, Linked, tree_of, in_order, as_carried}
use Rattle.forest.proofs.Owned.{Own, tree-own}
use Rattle.forest.proofs.Sense.{admitted-tidy, carried-tree}
use Rattle.forest.proofs.Above.{climbs}
use Rattle.classes.specs.TokenClass.{class_of}
use Rattle.class_list.specs.declared.class_list.ClassedToken.{ClassedToken}
use Rattle.class_list.specs.Classes.{entry_of, classes, classes_of}
use Rattle.class_list.specs.inner.Carried.{given_at, given_below, Carries}
use Rattle.class_list.proofs.ClassLaws.{below_next}

module _ (src t : List ℕ) where
  -- what a record with its parent's number gives
  unfoldable one : Linked → List ClassedToken
  one l =
      let r : Rec = l.self in
      cond (is_node r.kind) [] (entry_of (class_of src (kind_at t l.parent) r.kind r.start r.end) r.start r.end)

  unfoldable all : List Linked → List ClassedToken
  all [] = []
  all (l ∷ ls) = one l ++ all ls

  all_append : (xs ys : List Linked) → all (xs ++ ys) ≡ all xs ++ all ys
  unfolding all
  all_append [] ys = refl
  all_append (x ∷ xs) ys = rw (all_append xs ys) (sym (append_assoc (one x) (all xs) (all ys)))

  -- the classes of a table's tree are those of its records in document order
  classes-in_order : (p : ℕ) (f : Forest) → Own t f → classes src (kind_at t p) f ≡ all (in_order p f)
  unfolding classes in_order all one Own
  classes-in_order p nil w = refl
  classes-in_order p (token r rest) w = rw (w.0, classes-in_order p rest w.1)
  classes-in_order p (node r below rest) w =
      rw (w.0.0, w.0.1, classes-in_order r.index below w.1, classes-in_order p rest w.2) (sym (all_append (in_order r.index below) (in_order p rest)))

  -- and so is what the records give, one by one
  carried_on : (n i : ℕ) → given_below src t i ++ all (as_carried t (run t 0 i n)) ≡ given_below src t (i + n)
  unfolding run as_carried all
  carried_on zero i = rw (add-zero i) (append-nil (given_below src t i))
  carried_on (suc n) i =
      let here : one (record { self = record_at t 0 i; parent = parent_at t (record_at t 0 i).index }) ≡ given_at src t i = (unfold one given_at record_at in rw (zero-add i)) in
      let e : i + suc n ≡ i + 1 + n = omega arith in
      rw (here, e) (sym (append_assoc (given_below src t i) (given_at src t i) (all (as_carried t (run t 0 (i + 1) n)))) ∙ rw (← below_next src t i) (carried_on n (i + 1)))

-- THE THEOREM
pub admitted-carries : (t : List ℕ) (n : ℕ) {v : Verdict} → v ≡ verdict t n 0 → v ≡ Ok tt → Carries t
admitted-carries t n e q = record { within = within; flat = flat }
  where
    w : Tidy t n
    w = admitted-tidy t n 0 (sym e ∙ q)

    within : (i : ℕ) → i < count t → parent_at t i < count t
    within zero c = let z : nearest t (depth_at t 0) 0 ≡ 0 = (unfold nearest in refl) in omega (arith, w.parents 0 c, z)
    within (suc i) c = omega (arith, (climbs t n w).up (suc i) (omega arith) c)

    flat : (src : List ℕ) → classes_of src t ≡ given_below src t (count t)
    flat src =
        let top : classes src (kind_at t 0) (tree_of t) ≡ classes_of src t = (unfold classes record_at in append-nil (classes_of src t)) in
        let last : all src t (as_carried t (records 0 t)) ≡ given_below src t (0 + (count t - 0)) = (unfold from given_below in carried_on src t (count t - 0) 0) in
        let size : 0 + (count t - 0) ≡ count t = omega arith in
        sym top ∙ classes-in_order src t 0 (tree_of t) (tree-own t w.some w.top.0) ∙ ap (all src t) (carried-tree t n w) ∙ last ∙ ap (given_below src t) size
