-- The reference lists of all roots, read back from the bytes of their buffers:
--     its-node       a root is a node of the table, as the question names it
--     its-list       what the question at a root lists is what `Exact` speaks of
--     shown-list     the record numbers in the bytes are the list's
--     shown-times    so each number stands there as often as `Exact` says
-- Assumes nothing.
use Prim.Native.Nat.{ℕ, ◌+◌, ◌*◌, ◌/◌, ◌%◌, ◌≤◌, ◌<◌}
use mathlib.Core.Path.{◌≡◌, refl, sym, ap, ◌∙◌}
use mathlib.Core.Bool.{Bool, true, false, cond}
use mathlib.Core.List.{List, [], ◌∷◌, ◌++◌, map, append_assoc, Memᴰ}
use mathlib.Core.Logic.{⊎_elim}
use native.Mathlib.Omega.{arith}
use native.Mathlib.Nat.{zero-add, div-div-eq-div-mul, div-add-mod', mod-eq_of_lt}
use borrow.Author.Tests.{eq-eqb, leb-true}
use lib.ListN.{length, drop}
use Rattle.std.specs.Prelude.{Ok}
use Rattle.records.specs.declared.record.Rec.{Rec}
use Rattle.records.specs.Kinds.{is_node, expression}
use Rattle.lent.specs.Numbers.{word}
use Rattle.records.specs.Table.{count, kind_at, record_at, records, part}
use Rattle.forest.specs.Forest.{stretch_end}
use Rattle.table.specs.Rules.{verdict}
use Rattle.table.specs.Exactly.{Node}
use Rattle.forest.specs.Sense.{Tidy}
use Rattle.lent.specs.Lists.{row_bytes, list_bytes}
use Rattle.forest.specs.Places.{Place, nodes_of, selves, node_records, sum}
use Rattle.lent.proofs.Cases.{lt-or-le}
use Rattle.forest.proofs.Laws.{head-part}
use Rattle.forest.proofs.Places.{stands, nodes-in-order}
use Rattle.forest.proofs.Sense.{admitted-tidy}
use Rattle.references.specs.declared.pending.TableRef.{TableRef}
use Rattle.collection.specs.Collection.{collection, own_tables}
use Rattle.references.specs.References.{reference_bytes, reference_row}
use Rattle.tables.specs.Tables.{references}
use Rattle.lists.specs.Scope.{table_refs}
use Rattle.roots.specs.Reach.{refs, times, Exact}
use Rattle.roots.specs.AllRoots.{RootIn, records_in, times_in}
use Rattle.roots.proofs.Exact.{table-exact}

-- ---- the record numbers in the bytes

abbrev record_of : TableRef → ℕ
record_of e = e.«record»

digits : (v : ℕ) → v < 4294967296 → v % 256 + v / 256 % 256 * 256 + v / 65536 % 256 * 65536 + v / 16777216 % 256 * 16777216 ≡ v
digits v h =
    let a : v / 256 / 256 ≡ v / 65536 = div-div-eq-div-mul v 256 256 in
    let b : v / 65536 / 256 ≡ v / 16777216 = div-div-eq-div-mul v 65536 256 in
    let small : v / 16777216 < 256 = omega arith in
    let top : v / 16777216 % 256 ≡ v / 16777216 = mod-eq_of_lt small in
    let x : v / 256 * 256 + v % 256 ≡ v = div-add-mod' v 256 in
    let y : v / 256 / 256 * 256 + v / 256 % 256 ≡ v / 256 = div-add-mod' (v / 256) 256 in
    let z : v / 65536 / 256 * 256 + v / 65536 % 256 ≡ v / 65536 = div-add-mod' (v / 65536) 256 in
    rw top (go (v / 256) (v / 65536) (v / 16777216) (v % 256) (v / 256 % 256) (v / 65536 % 256) x (rw a at y) (rw b at z))
  where
    go : (p q r k l m : ℕ) → p * 256 + k ≡ v → q * 256 + l ≡ p → r * 256 + m ≡ q → k + l * 256 + m * 65536 + r * 16777216 ≡ v
    go p q r k l m x y z = omega arith

front-word : (e : TableRef) (more : List ℕ) → e.«record» < 4294967296 → word (row_bytes (reference_row e) ++ more) 0 ≡ e.«record»
unfolding word row_bytes
front-word e more h = digits e.«record» h

front_rest : (e : TableRef) (more : List ℕ) → drop reference_bytes (row_bytes (reference_row e) ++ more) ≡ more
unfolding row_bytes
front_rest e more = refl

list-front : (e : TableRef) (es : List TableRef) (rest : List ℕ)
    → list_bytes reference_row (e ∷ es) ++ rest ≡ row_bytes (reference_row e) ++ (list_bytes reference_row es ++ rest)
unfolding list_bytes
list-front e es rest = append_assoc (row_bytes (reference_row e)) (list_bytes reference_row es) rest

times-here : (e : TableRef) (es : List TableRef) → 1 ≤ times e.«record» (e ∷ es)
unfolding sum
times-here e es = rw (eq-eqb e.«record» e.«record» refl) (omega arith)

times_more : (x : ℕ) (e : TableRef) (es : List TableRef) → 1 ≤ times x es → 1 ≤ times x (e ∷ es)
unfolding sum
times_more x e es h = omega arith

read_back : (es : List TableRef) → ((x : ℕ) → 1 ≤ times x es → x < 4294967296) → (rest : List ℕ)
    → records_in (length es) (list_bytes reference_row es ++ rest) ≡ map record_of es
unfolding records_in
read_back [] h rest = refl
read_back (e ∷ es) h rest =
    rw (
      list-front e es rest,
      front-word e (list_bytes reference_row es ++ rest) (h e.«record» (times-here e es)),
      front_rest e (list_bytes reference_row es ++ rest),
      read_back es (λ x p. h x (times_more x e es p)) rest,
    )

times-map : (x : ℕ) (es : List TableRef) → times_in x (map record_of es) ≡ times x es
unfolding sum
times-map x [] = refl
times-map x (e ∷ es) = rw (times-map x es)

pub sum-members : {A : Type 0} {f g : A → ℕ} (xs : List A) → ((x : A) → Memᴰ x xs → f x ≡ g x) → sum f xs ≡ sum g xs
unfolding sum
sum-members [] h = refl
sum-members (x ∷ xs) h = rw (h x (Memᴰ.head refl), sum-members xs (λ y m. h y (Memᴰ.tail m)))

-- ---- a place is a node

all-nodes : (r : Rec) (rs : List Rec) → Memᴰ r (node_records rs) → is_node r.kind ≡ true
unfolding node_records
all-nodes r [] m = elim m [ ]
all-nodes r (q ∷ rs) m = go (is_node q.kind) refl m (all-nodes r rs)
  where
    go : (b : Bool) → is_node q.kind ≡ b → Memᴰ r (cond b (q ∷ node_records rs) (node_records rs)) → (Memᴰ r (node_records rs) → is_node r.kind ≡ true)
        → is_node r.kind ≡ true
    go true e (Memᴰ.head x) ih = ap (λ (z : Rec). is_node z.kind) x ∙ e
    go true e (Memᴰ.tail x) ih = ih x
    go false e x ih = ih x

among-selves : (p : Place) (ps : List Place) → Memᴰ p ps → Memᴰ p.self (selves ps)
unfolding selves
among-selves p [] x' = elim x' [ ]
among-selves p (q ∷ ps) (Memᴰ.head x) = Memᴰ.head (ap (λ (z : Place). z.self) x)
among-selves p (q ∷ ps) (Memᴰ.tail x) = Memᴰ.tail (among-selves p ps x)

node-self : (p : Place) (ps : List Place) → Memᴰ p ps → (rs : List Rec) → selves ps ≡ node_records rs → is_node p.self.kind ≡ true
node-self p ps m rs e = all-nodes p.self rs (rw e at (among-selves p ps m))

-- ---- the lists

module _ (src t : List ℕ) (ok : verdict t (length src) 0 ≡ Ok tt) where
  tidy : Tidy t (length src)
  tidy = admitted-tidy t (length src) 0 ok

  pub exact : Exact src (nodes_of t)
  exact = table-exact src t tidy.some

  -- a root is a node of the table
  pub its-node : (root : Place) → Memᴰ root (nodes_of t) → (root.self.index < count t) × Node (kind_at t root.self.index)
  unfolding record_at
  its-node root m =
      let w = stands t tidy.some root m in
      let i : root.self.index ≡ w.at = ap (λ (r : Rec). r.index) w.self ∙ zero-add w.at in
      let k : root.self.kind ≡ kind_at t w.at = ap (λ (r : Rec). r.kind) w.self in
      rw i (w.within, rw k at (leb-true root.self.kind expression (node-self root (nodes_of t) m (records 0 t) (nodes-in-order t (length src) tidy))))

  -- a root's list is that of its record
  pub its-list : (root : Place) → Memᴰ root (nodes_of t) → table_refs src t root.self.index ≡ refs src root
  its-list root m =
      let w = stands t tidy.some root m in
      let i : root.self.index ≡ w.at = ap (λ (r : Rec). r.index) w.self ∙ (unfold record_at in zero-add w.at) in
      let h : record_at (part t w.at (stretch_end t w.at)) w.at 0 ≡ record_at t 0 w.at = rw (zero-add w.at) at (head-part t 0 w.at w.within refl) in
      ap (table_refs src t) i ∙ rw (h, ← w.below) (ap (λ (r : Rec). collection (own_tables references src) r root.below) (sym w.self))

  bounded : (root : Place) → RootIn t root → (x : ℕ) → 1 ≤ times x (refs src root) → x < 4294967296
  bounded root r x h =
      ⊎_elim
      (λ l. omega (arith, tidy.few))
      (λ l. absurd (omega (arith, exact.others root x r.0 r.1 (λ p n q e. omega (arith, (its-node p n).0)))))
      (lt-or-le x (count t))

  -- what a root's buffer shows is its list
  pub shown-list : (root : Place) → RootIn t root → (rest : List ℕ)
      → records_in (length (refs src root)) (list_bytes reference_row (refs src root) ++ rest) ≡ map record_of (refs src root)
  shown-list root r rest = read_back (refs src root) (bounded root r) rest

  pub shown-times : (root : Place) → RootIn t root → (rest : List ℕ) (x : ℕ)
      → times_in x (records_in (length (refs src root)) (list_bytes reference_row (refs src root) ++ rest)) ≡ times x (refs src root)
  shown-times root r rest x = ap (times_in x) (shown-list root r rest) ∙ times-map x (refs src root)
