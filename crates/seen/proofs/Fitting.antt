-- On an admitted table every number of a WITH name that is seen of an enclosing root fits 32 bits, and there are few.
--     seen-fits, seen_few
-- Assumes nothing.
use Prim.Native.Nat.{ℕ, suc, ◌+◌, ◌*◌, ◌≤◌, ◌<◌}
use mathlib.Core.Path.{◌≡◌, sym}
use mathlib.Core.Bool.{Bool, true, false, cond}
use mathlib.Core.List.{List, [], ◌∷◌, ◌++◌}
use native.Mathlib.Omega.{arith}
use lib.Dec.{eqb}
use lib.ListN.{length, length-append}
use Rattle.std.specs.Prelude.{Ok}
use Rattle.lent.specs.Numbers.{OfBytes}
use Rattle.lent.specs.Fit32.{AllFit32}
use Rattle.lent.proofs.Fit32.{fit-lists, fit-chosen}
use Rattle.records.specs.Kinds.{with_clause, with_expression_item, column_list}
use Rattle.records.specs.Table.{count}
use Rattle.conditions.specs.Conditions.{most_records}
use Rattle.table.specs.Rules.{verdict}
use Rattle.forest.specs.Forest.{Forest, nil, token, node}
use Rattle.forest.specs.Above.{stands_below}
use Rattle.forest.specs.Limits.{Limited, SpansFit, size}
use Rattle.forest.proofs.Limits.{Fitting, fitting-inherited, stretch-fits, stretch-size}
use Rattle.forest.proofs.Sense.{admitted-tidy}
use Rattle.names.specs.Names.{with_item}
use Rattle.names.specs.Bindings.{entry, binding_row}
use Rattle.names.proofs.Fitting.{BoundFits, item-fits, entry-fits, entry-one}
use Rattle.collection.proofs.Fitting.{collection-fits, collection-few}
use Rattle.seen.specs.Seen.{own_seen, seen_of}
use Rattle.items.specs.Items.{Item, items, items_before, bound_by}

-- ---- the numbers

-- what each of some items binds
unfoldable ItemsFit : List ℕ → List Item → Type 0
ItemsFit src [] = Unit
ItemsFit src (i ∷ is) = BoundFits (with_item src i.self i.below) × ItemsFit src is

module _ (src : List ℕ) where
  chosen-fit : (b : Bool) (xs ys : List Item) → ItemsFit src xs → ItemsFit src ys → ItemsFit src (cond b xs ys)
  chosen-fit true xs ys p q = p
  chosen-fit false xs ys p q = q

  both-fit : (xs ys : List Item) → ItemsFit src xs → ItemsFit src ys → ItemsFit src (xs ++ ys)
  unfolding ItemsFit
  both-fit [] ys p q = q
  both-fit (x ∷ xs) ys p q = (p.0, both-fit xs ys p.1 q)

  none-fits : ItemsFit src []
  unfolding ItemsFit
  none-fits = tt

  one-fits : (i : Item) → BoundFits (with_item src i.self i.below) → ItemsFit src (i ∷ [])
  unfolding ItemsFit
  one-fits i h = (h, tt)

  items-fit : (f : Forest) → Fitting f → ItemsFit src (items f)
  unfolding items Limited SpansFit
  items-fit nil w = none-fits
  items-fit (token r rest) w = items-fit rest (w.0.1, w.1)
  items-fit (node r below rest) w =
      both-fit _ (items rest)
      (chosen-fit (eqb r.kind with_expression_item) (record { self = r; below = below } ∷ []) _ (one-fits (record { self = r; below = below }) (item-fits src r below rest w))
      (chosen-fit (eqb r.kind column_list) (items below) [] (items-fit below (w.0.1, w.1.1)) none-fits))
      (items-fit rest (w.0.2, w.1.2))

  before-fit : (t : List ℕ) (n : ℕ) (is : List Item) → ItemsFit src is → ItemsFit src (items_before t n is)
  unfolding items_before ItemsFit
  before-fit t n [] w = tt
  before-fit t n (i ∷ is) w = chosen-fit (stands_below t i.self.index n) [] (i ∷ items_before t n is) tt (w.0, before-fit t n is w.1)

  bound-fit : (is : List Item) → ItemsFit src is → AllFit32 binding_row (bound_by src is)
  unfolding bound_by ItemsFit
  bound-fit [] w = (unfold AllFit32 in tt)
  bound-fit (i ∷ is) w = fit-lists binding_row (entry (with_item src i.self i.below)) (bound_by src is) (entry-fits (with_item src i.self i.below) w.0) (bound-fit is w.1)

  own-fits : (t : List ℕ) (n k : ℕ) (f : Forest) → Fitting f → AllFit32 binding_row (own_seen src t n k f)
  unfolding own_seen
  own-fits t n k f w =
      fit-chosen binding_row (eqb k with_clause) (bound_by src (items_before t n (items f))) [] (bound-fit (items_before t n (items f)) (before-fit t n (items f) (items-fit f w))) (unfold AllFit32 in tt)

-- ---- how many

items-few : (f : Forest) → length (items f) ≤ size f
unfolding items size
items-few nil = omega arith
items-few (token r rest) = omega (arith, items-few rest)
items-few (node r below rest) = go (eqb r.kind with_expression_item) (eqb r.kind column_list) (items-few below) (items-few rest)
  where
    go : (b c : Bool) → length (items below) ≤ size below → length (items rest) ≤ size rest
        → length (cond b (record { self = r; below = below } ∷ []) (cond c (items below) []) ++ items rest) ≤ suc (size below + size rest)
    go true c p q = omega arith
    go false true p q = omega (arith, length-append (items below) (items rest))
    go false false p q = omega arith

before-few : (t : List ℕ) (n : ℕ) (is : List Item) → length (items_before t n is) ≤ length is
unfolding items_before
before-few t n [] = omega arith
before-few t n (i ∷ is) = go (stands_below t i.self.index n) (before-few t n is)
  where
    go : (b : Bool) → length (items_before t n is) ≤ length is → length (cond b [] (i ∷ items_before t n is)) ≤ suc (length is)
    go true h = omega arith
    go false h = omega arith

bound-few : (src : List ℕ) (is : List Item) → length (bound_by src is) ≤ length is
unfolding bound_by
bound-few src [] = omega arith
bound-few src (i ∷ is) =
    omega (arith, length-append (entry (with_item src i.self i.below)) (bound_by src is), entry-one (with_item src i.self i.below), bound-few src is)

own-few : (src t : List ℕ) (n k : ℕ) (f : Forest) → length (own_seen src t n k f) ≤ size f
unfolding own_seen
own-few src t n k f = go (eqb k with_clause)
  where
    go : (b : Bool) → length (cond b (bound_by src (items_before t n (items f))) []) ≤ size f
    go true = omega (arith, bound-few src (items_before t n (items f)), before-few t n (items f), items-few f)
    go false = omega arith

-- ---- of the root i, as the inner query n sees it

module _ (src t : List ℕ) (l m n i : ℕ) (a : Ok tt ≡ verdict t l m) (h : i < count t) where
  pub seen-fits : OfBytes t → AllFit32 binding_row (seen_of src t n i)
  seen-fits b = collection-fits binding_row (own_seen src t n) fitting-inherited (own-fits src t n) _ _ (stretch-fits (admitted-tidy t l m (sym a)) b i h)

  pub seen_few : length (seen_of src t n i) ≤ most_records * most_records
  seen_few = collection-few (own_seen src t n) (own-few src t n) _ _ (omega (arith, stretch-size t i h, (admitted-tidy t l m (sym a)).few))
