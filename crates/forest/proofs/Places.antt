-- The nodes of a table's tree against its records:
--     stands            a node is a record, with its stretch below it, whatever the table
--     numbered          no two nodes have one number, whatever the table
--     nodes-in-order    on an admitted table the tree's nodes are the table's nodes, in the table's order
-- Assumes nothing.
use mathlib.Core.Path.{◌≡◌, refl, sym, ap, ◌∙◌}
use mathlib.Core.Logic.{⊎_elim}
use mathlib.Core.List.{List, [], ◌∷◌, ◌++◌, Memᴰ}
use mathlib.Core.Bool.{cond}
use Prim.Native.Nat.{ℕ, zero, suc, ◌+◌, ◌-◌, ◌≤◌, ◌<◌}
use native.Mathlib.Omega.{arith}
use native.Mathlib.Nat.{zero-add}
use borrow.Author.Tests.{le-leb, lt-leb, eq-eqb, ne_eqb}
use lib.Dec.{eqb}
use Rattle.records.specs.declared.record.Rec.{Rec}
use Rattle.records.specs.Kinds.{last_node}
use Rattle.records.specs.Table.{count, depth_at, kind_at, record_at, run, from, records, part}
use Rattle.forest.specs.Forest.{Forest, nil, token, node, level, kids, stretch_end}
use Rattle.forest.specs.Sense.{Tidy, Linked, in_order, by_depth, tree_of}
use Rattle.forest.specs.Places.{Place, places, nodes_of, selves, node_records, Stands, sum, Numbered}
use Rattle.lent.proofs.Cases.{lt-or-le, eq-or-not}
use Rattle.forest.proofs.Laws.{node-or-token, level-shallow, level-deep, level-token, level-node, from_cons, kids-part}
use Rattle.forest.proofs.Sense.{whole-tree}

-- ---- sums

pub sum-append : {A : Type 0} (f : A → ℕ) (xs ys : List A) → sum f (xs ++ ys) ≡ sum f xs + sum f ys
unfolding sum
sum-append f [] ys = omega arith
sum-append f (x ∷ xs) ys = omega (arith, sum-append f xs ys)

-- ---- each node is a record with its stretch

All : (Place → Type 0) → List Place → Type 0
All Q [] = Unit
All Q (p ∷ ps) = Q p × All Q ps

all_append : (Q : Place → Type 0) (ps qs : List Place) → All Q ps → All Q qs → All Q (ps ++ qs)
unfolding All
all_append Q [] qs a b = b
all_append Q (p ∷ ps) qs a b = (a.0, all_append Q ps qs a.1 b)

all-node : (Q : Place → Type 0) (above : List Rec) (r : Rec) (below rest : Forest) → Q (record { self = r; below = below; above = above })
    → All Q (places (r ∷ above) below) → All Q (places above rest) → All Q (places above (node r below rest))
unfolding All places
all-node Q above r below rest a b c = (a, all_append Q (places (r ∷ above) below) (places above rest) b c)

all_of : (Q : Place → Type 0) (p : Place) (ps : List Place) → Memᴰ p ps → All Q ps → Q p
unfolding All
all_of Q p [] m a = elim m [ ]
all_of Q p (q ∷ ps) (Memᴰ.head e) a = rw e a.0
all_of Q p (q ∷ ps) (Memᴰ.tail m) a = all_of Q p ps m a.1

module _ (t : List ℕ) where
  stands_at : (i k : ℕ) (above : List Rec) (rs : List Rec) → rs ≡ from t 0 (i + 1) → i < count t → depth_at t i ≡ k
      → Stands t (record { self = record_at t 0 i; below = level (k + 1) rs; above = above })
  stands_at i k above rs q h d =
      let e : kids (records i (part t i (stretch_end t i))) ≡ level (k + 1) (from t 0 (i + 1)) = rw (zero-add i) at (kids-part t 0 k i h d) in
      record { at = i; within = h; self = refl; below = rw (q, e) }

  stand : (n i k : ℕ) (above : List Rec) → n ≡ count t - i → All (Stands t) (places above (level k (run t 0 i n)))
  unfolding run level places All record_at from
  stand zero i k above e = tt
  stand (suc n) i k above e =
      let m : n ≡ count t - (i + 1) = omega arith in
      ⊎_elim
      (λ h. rw (level-shallow k (record_at t 0 i) (run t 0 (i + 1) n) h) tt)
      (λ (h : k ≤ depth_at t i).
      ⊎_elim
      (λ g. rw (level-deep k (record_at t 0 i) (run t 0 (i + 1) n) g) (stand n (i + 1) k above m))
      (λ (g : depth_at t i ≤ k).
      ⊎_elim
      (λ l.
      rw (level-node k (record_at t 0 i) (run t 0 (i + 1) n) (omega arith) l)
      (all-node (Stands t) above (record_at t 0 i) (level (k + 1) (run t 0 (i + 1) n)) (level k (run t 0 (i + 1) n))
      (stands_at i k above (run t 0 (i + 1) n) (ap (run t 0 (i + 1)) m) (omega arith) (omega arith))
      (stand n (i + 1) (k + 1) (record_at t 0 i ∷ above) m) (stand n (i + 1) k above m)))
      (λ l. rw (level-token k (record_at t 0 i) (run t 0 (i + 1) n) (omega arith) l) (stand n (i + 1) k above m))
      (node-or-token (kind_at t i)))
      (lt-or-le k (depth_at t i)))
      (lt-or-le (depth_at t i) k)

  all-stand : 0 < count t → All (Stands t) (nodes_of t)
  unfolding All places kids record_at
  all-stand h = rw (from_cons t 0 0 h)
      (all-node (Stands t) [] (record_at t 0 0) (level (depth_at t 0 + 1) (from t 0 1)) nil
      (stands_at 0 (depth_at t 0) [] (from t 0 1) refl h refl)
      (unfold from in stand (count t - 1) 1 (depth_at t 0 + 1) (record_at t 0 0 ∷ []) refl) tt)

-- a node of the tree is a record of the table
pub stands : (t : List ℕ) → 0 < count t → (p : Place) → Memᴰ p (nodes_of t) → Stands t p
stands t h p m = all_of (Stands t) p (nodes_of t) m (all-stand t h)

-- ---- no two nodes have one number

abbrev is : ℕ → Rec → ℕ
is x r = cond (eqb r.index x) 1 0

-- how often x numbers a node
nodes : ℕ → Forest → ℕ
nodes x nil = 0
nodes x (token r rest) = nodes x rest
nodes x (node r below rest) = is x r + (nodes x below + nodes x rest)

nodes-places : (x : ℕ) (above : List Rec) (f : Forest) → sum (λ (p : Place). is x p.self) (places above f) ≡ nodes x f
unfolding nodes places sum
nodes-places x above nil = refl
nodes-places x above (token r rest) = nodes-places x above rest
nodes-places x above (node r below rest) =
    rw (sum-append (λ (p : Place). is x p.self) (places (r ∷ above) below) (places above rest), nodes-places x (r ∷ above) below, nodes-places x above rest)

-- ---- all levels together see each record at most once

up_to : ℕ → ℕ → List Rec → ℕ
up_to x zero rs = nodes x (level 0 rs)
up_to x (suc n) rs = nodes x (level (suc n) rs) + up_to x n rs

up_to-nil : (x n : ℕ) → up_to x n [] ≡ 0
unfolding up_to level nodes
up_to-nil x zero = refl
up_to-nil x (suc n) = omega (arith, up_to-nil x n)

module _ (x : ℕ) (r : Rec) (rs : List Rec) where
  at-deep : (n : ℕ) → n < r.depth → nodes x (level n (r ∷ rs)) ≡ nodes x (level n rs)
  at-deep n h = rw (level-deep n r rs h)

  at-past : (n : ℕ) → r.depth < n → nodes x (level n (r ∷ rs)) ≡ 0
  unfolding nodes
  at-past n h = rw (level-shallow n r rs h)

  at_here : (n : ℕ) → r.depth ≡ n → nodes x (level n (r ∷ rs)) ≤ is x r + (nodes x (level (n + 1) rs) + nodes x (level n rs))
  unfolding nodes
  at_here n e =
      ⊎_elim
      (λ h. rw (level-node n r rs e h) (omega arith))
      (λ h. rw (level-token n r rs e h) (omega arith))
      (node-or-token r.kind)

  up-deep : (n : ℕ) → n < r.depth → up_to x n (r ∷ rs) ≡ up_to x n rs
  unfolding up_to
  up-deep zero h = at-deep zero h
  up-deep (suc n) h = rw (at-deep (suc n) h, up-deep n (omega arith))

  up_at : (n : ℕ) → r.depth ≡ n → up_to x n (r ∷ rs) ≤ is x r + up_to x (suc n) rs
  unfolding up_to
  up_at zero e = at_here zero e
  up_at (suc n) e =
      let s : suc n + 1 ≡ suc (suc n) = omega arith in
      omega (arith, rw s at (at_here (suc n) e), up-deep n (omega arith))

  up-past : (n d : ℕ) → r.depth ≡ d → d < n → up_to x n (r ∷ rs) ≤ is x r + up_to x (suc d) rs
  unfolding up_to
  up-past zero d e h = absurd (omega arith)
  up-past (suc n) d e h =
      ⊎_elim
      (λ l. omega (arith, at-past (suc n) (omega arith), up-past n d e l))
      (λ l. let q : d ≡ n = omega arith in rw q (omega (arith, at-past (suc n) (omega arith), up_at n (e ∙ q))))
      (lt-or-le d n)

  up-any : (n : ℕ) → ((m : ℕ) → up_to x m rs ≤ sum (is x) rs) → up_to x n (r ∷ rs) ≤ is x r + sum (is x) rs
  up-any n ih =
      ⊎_elim
      (λ l. omega (arith, up-deep n l, ih n))
      (λ l.
      ⊎_elim
      (λ m. omega (arith, up-past n r.depth refl m, ih (suc r.depth)))
      (λ m. omega (arith, up_at n (omega arith), ih (suc n)))
      (lt-or-le r.depth n))
      (lt-or-le n r.depth)

up-once : (x n : ℕ) (rs : List Rec) → up_to x n rs ≤ sum (is x) rs
unfolding sum
up-once x n [] = omega (arith, up_to-nil x n)
up-once x n (r ∷ rs) = up-any x r rs n (λ m. up-once x m rs)

level-once : (x k : ℕ) (rs : List Rec) → nodes x (level k rs) ≤ sum (is x) rs
unfolding up_to
level-once x zero rs = up-once x zero rs
level-once x (suc k) rs = omega (arith, up-once x (suc k) rs)

-- ---- the records of a table are numbered in order

before : (t : List ℕ) (base i n x : ℕ) → x < base + i → sum (is x) (run t base i n) ≡ 0
unfolding run record_at sum
before t base i zero x h = refl
before t base i (suc n) x h = rw (ne_eqb (base + i) x (omega arith)) (omega (arith, before t base (i + 1) n x (omega arith)))

once : (t : List ℕ) (base i n x : ℕ) → sum (is x) (run t base i n) ≤ 1
unfolding run record_at sum
once t base i zero x = omega arith
once t base i (suc n) x =
    ⊎_elim
    (λ e. rw (eq-eqb (base + i) x e) (omega (arith, before t base (i + 1) n x (omega arith))))
    (λ e. rw (ne_eqb (base + i) x e) (omega (arith, once t base (i + 1) n x)))
    (eq-or-not (base + i) x)

pub numbered : (t : List ℕ) → 0 < count t → Numbered (nodes_of t)
unfolding nodes kids sum
numbered t h x =
    let f : sum (is x) (from t 0 0) ≤ 1 = unfold from in once t 0 0 _ x in
    rw (nodes-places x [] (node (record_at t 0 0) (kids (records 0 t)) nil), from_cons t 0 0 h)
    (omega (arith, level-once x ((record_at t 0 0).depth + 1) (from t 0 1), rw (from_cons t 0 0 h) at f))

-- ---- of an admitted table, all nodes are there, in order

-- what `level` makes: nodes and tokens by their kinds
Kinded : Forest → Type 0
Kinded nil = Unit
Kinded (token r rest) = (last_node < r.kind) × Kinded rest
Kinded (node r below rest) = (r.kind ≤ last_node) × Kinded below × Kinded rest

level-kinded : (k : ℕ) (rs : List Rec) → Kinded (level k rs)
unfolding Kinded level
level-kinded k [] = tt
level-kinded k (r ∷ rs) =
    ⊎_elim
    (λ h. rw (level-shallow k r rs h) tt)
    (λ (h : k ≤ r.depth).
    ⊎_elim
    (λ g. rw (level-deep k r rs g) (level-kinded k rs))
    (λ (g : r.depth ≤ k).
    ⊎_elim
    (λ l. rw (level-node k r rs (omega arith) l) (l, level-kinded (k + 1) rs, level-kinded k rs))
    (λ l. rw (level-token k r rs (omega arith) l) (l, level-kinded k rs))
    (node-or-token r.kind))
    (lt-or-le k r.depth))
    (lt-or-le r.depth k)

record-node : (r : Rec) (rs : List Rec) → r.kind ≤ last_node → node_records (r ∷ rs) ≡ r ∷ node_records rs
unfolding node_records
record-node r rs h = rw (le-leb r.kind last_node h)

record-token : (r : Rec) (rs : List Rec) → last_node < r.kind → node_records (r ∷ rs) ≡ node_records rs
unfolding node_records
record-token r rs h = rw (lt-leb r.kind last_node h)

nodes-append : (xs ys : List Rec) → node_records (xs ++ ys) ≡ node_records xs ++ node_records ys
unfolding node_records
nodes-append [] ys = refl
nodes-append (x ∷ xs) ys =
    ⊎_elim
    (λ h. rw (le-leb x.kind last_node h, nodes-append xs ys))
    (λ h. rw (lt-leb x.kind last_node h, nodes-append xs ys))
    (node-or-token x.kind)

selves-append : (ps qs : List Place) → selves (ps ++ qs) ≡ selves ps ++ selves qs
unfolding selves
selves-append [] qs = refl
selves-append (p ∷ ps) qs = rw (selves-append ps qs)

-- the records of a reading
heads : List Linked → List Rec
heads [] = []
heads (x ∷ xs) = x.self ∷ heads xs

heads-append : (xs ys : List Linked) → heads (xs ++ ys) ≡ heads xs ++ heads ys
unfolding heads
heads-append [] ys = refl
heads-append (x ∷ xs) ys = rw (heads-append xs ys)

heads-by : (t : List ℕ) (rs : List Rec) → heads (by_depth t rs) ≡ rs
unfolding heads by_depth
heads-by t [] = refl
heads-by t (r ∷ rs) = rw (heads-by t rs)

places-in-order : (above : List Rec) (p : ℕ) (f : Forest) → Kinded f → selves (places above f) ≡ node_records (heads (in_order p f))
unfolding selves places node_records heads in_order Kinded
places-in-order above p nil w = refl
places-in-order above p (token r rest) w = places-in-order above p rest w.1 ∙ sym (record-token r (heads (in_order p rest)) w.0)
places-in-order above p (node r below rest) w =
    rw (
      selves-append (places (r ∷ above) below) (places above rest),
      places-in-order (r ∷ above) r.index below w.1,
      places-in-order above p rest w.2,
    )
    (sym (record-node r (heads (in_order r.index below ++ in_order p rest)) w.0
    ∙ rw (heads-append (in_order r.index below) (in_order p rest), nodes-append (heads (in_order r.index below)) (heads (in_order p rest)))))

kids-kinded : (rs : List Rec) → Kinded (kids rs)
unfolding kids Kinded
kids-kinded [] = tt
kids-kinded (r ∷ rs) = level-kinded (r.depth + 1) rs

top-kinded : (t : List ℕ) → kind_at t 0 ≤ last_node → Kinded (tree_of t)
unfolding Kinded record_at
top-kinded t h = (h, kids-kinded (records 0 t), tt)

pub nodes-in-order : (t : List ℕ) (n : ℕ) → Tidy t n → selves (nodes_of t) ≡ node_records (records 0 t)
nodes-in-order t n w =
    places-in-order [] 0 (tree_of t) (top-kinded t w.top.0) ∙ rw (whole-tree t n w, heads-by t (records 0 t))
