-- Where a stretch has no clause that a list is read from, nothing is collected in it.
--     quiet-node                        a child in which there is nothing to collect
--     tokens-pass                       a token adds nothing to what is written
-- Assumes nothing.
use Prim.Native.Nat.{ℕ, zero, suc, ◌+◌, ◌≤◌, ◌<◌}
use mathlib.Core.Path.{◌≡◌, refl, sym, ap, ◌∙◌}
use mathlib.Core.Bool.{Bool, true, false, cond, not, ◌&&◌, ◌||◌}
use mathlib.Core.List.{List, [], ◌∷◌}
use mathlib.Core.Logic.{⊎_elim}
use native.Mathlib.Omega.{arith}
use borrow.Author.Tests.{eqb-true, eq-eqb, ne_eqb, le-leb}
use lib.Dec.{eqb, leb}
use Rattle.lent.proofs.Cases.{lt-or-le}
use Rattle.records.proofs.Fields.{kind-of}
use Rattle.records.specs.declared.record.Rec.{Rec}
use Rattle.records.specs.Kinds.{with_clause, select_clause, from_clause, join_clause, subquery_expression}
use Rattle.records.specs.Table.{count, kind_at, record_at, run, from, records, part}
use Rattle.lent.proofs.Writes.{written_none}
use Rattle.forest.specs.Forest.{Forest, token, node, level, kids, stretch_end}
use Rattle.forest.proofs.Writing.{writing, writing-turn}
use Rattle.forest.proofs.Laws.{level-shallow, level-deep, level-token, level-node, node-or-token, from_cons, head-part}
use Rattle.clauses.specs.declared.clauses.ScopeList.{ScopeList}
use Rattle.clauses.specs.declared.clauses.ScopeList.TheVariants.{WithNames, TableAliases, ColumnAliases, TableRefs}
use Rattle.collection.specs.Collection.{node_gives, collected}
use Rattle.collection.specs.inner.Rows.{own_rows}
use Rattle.clauses.specs.inner.Clauses.{in_kinds, some_kind, some_clause}
use Rattle.collection.proofs.Turns.{collected-sub, with-no, columns-no, aliases-are, references-are, tables-no}

-- the records' numbers have no part in it
kind-run : (f l : ℕ) (t : List ℕ) (b c i n : ℕ) → some_kind f l (run t b i n) ≡ some_kind f l (run t c i n)
unfolding run some_kind record_at
kind-run f l t b c i zero = refl
kind-run f l t b c i (suc n) = rw (kind-run f l t b c (i + 1) n)

-- ---- what is collected where there is none

-- neither of two is so
neither : (a b : Bool) → (a || b) ≡ false → (a ≡ false) × (b ≡ false)
neither true b e = absurd (let z : ◌≡◌ {A = ℕ} 0 1 = cc in omega arith)
neither false b e = (refl, e)

-- a kind that is not from f to l is none of them
outside : (f l k : ℕ) → in_kinds f l k ≡ false → (x : ℕ) → f ≤ x → x ≤ l → k ≡ x → ⊥
outside f l k e x a b q =
    let y : leb f x ≡ true = le-leb f x a in
    let z : leb x l ≡ true = le-leb x l b in
    let w : true ≡ false = rw (q, y, z) at e in
    let v : ◌≡◌ {A = ℕ} 0 1 = cc in
    omega arith

no_table : (k : ℕ) → in_kinds from_clause join_clause k ≡ false → (eqb k from_clause || eqb k join_clause) ≡ false
no_table k e =
    rw (
      ne_eqb k from_clause (outside from_clause join_clause k e from_clause (omega arith) (omega arith)),
      ne_eqb k join_clause (outside from_clause join_clause k e join_clause (omega arith) (omega arith)),
    )

module _ (src : List ℕ) where
  own-none : (asked : ScopeList) (r : Rec) (rs : List Rec) (f : Forest) → some_clause asked (r ∷ rs) ≡ false → (own_rows asked src r.kind f ≡ []) × (some_clause asked rs ≡ false)
  unfolding some_clause some_kind
  own-none WithNames r rs f e = let n = neither _ _ e in (with-no src r.kind f (outside with_clause with_clause r.kind n.0 with_clause (omega arith) (omega arith)), n.1)
  own-none ColumnAliases r rs f e =
      let n = neither _ _ e in (columns-no src r.kind f (outside select_clause select_clause r.kind n.0 select_clause (omega arith) (omega arith)), n.1)
  own-none TableAliases r rs f e = let n = neither _ _ e in (aliases-are src r.kind f ∙ tables-no src r.kind f _ (no_table r.kind n.0), n.1)
  own-none TableRefs r rs f e = let n = neither _ _ e in (references-are src r.kind f ∙ tables-no src r.kind f _ (no_table r.kind n.0), n.1)

  module _ (asked : ScopeList) where
    -- a node that has nothing of its own and nothing below gives nothing
    gives_none : (k : ℕ) (below : Forest) → own_rows asked src k below ≡ [] → collected (own_rows asked src) below ≡ []
        → cond (eqb k subquery_expression) [] (node_gives (own_rows asked src) k below (collected (own_rows asked src) below)) ≡ []
    unfolding node_gives
    gives_none k below a b = rw (a, b) (go (eqb k subquery_expression) (eqb k with_clause))
      where
        go : (x y : Bool) → cond {A = List (List ℕ)} x [] (cond y [] []) ≡ []
        go true y = refl
        go false true = refl
        go false false = refl

    pub quiet : (k : ℕ) (rs : List Rec) → some_clause asked rs ≡ false → collected (own_rows asked src) (level k rs) ≡ []
    unfolding collected level
    quiet k [] e = refl
    quiet k (r ∷ rs) e =
        let n = own-none asked r rs (level (k + 1) rs) e in
        let here = quiet k rs n.1 in
        let below = quiet (k + 1) rs n.1 in
        ⊎_elim
        (λ (h : r.depth < k). rw (level-shallow k r rs h))
        (λ (h : k ≤ r.depth).
        ⊎_elim
        (λ (g : k < r.depth). rw (level-deep k r rs g) here)
        (λ (g : r.depth ≤ k).
        ⊎_elim
        (λ x. rw (level-node k r rs (omega arith) x, gives_none r.kind (level (k + 1) rs) n.0 below) here)
        (λ x. rw (level-token k r rs (omega arith) x) here)
        (node-or-token r.kind))
        (lt-or-le k r.depth))
        (lt-or-le r.depth k)

-- ---- a child's stretch

-- the records' numbers have no part in it
clause-run : (asked : ScopeList) (t : List ℕ) (b c i n : ℕ) → some_clause asked (run t b i n) ≡ some_clause asked (run t c i n)
unfolding some_clause
clause-run WithNames t b c i n = kind-run with_clause with_clause t b c i n
clause-run TableAliases t b c i n = kind-run from_clause join_clause t b c i n
clause-run ColumnAliases t b c i n = kind-run select_clause select_clause t b c i n
clause-run TableRefs t b c i n = kind-run from_clause join_clause t b c i n

module _ (asked : ScopeList) (s : List ℕ) (base i : ℕ) (h : i < count s) {p : List ℕ} (q : p ≡ part s i (stretch_end s i)) (some : 0 < count p) {x : Bool}
    (e : x ≡ (not (eqb (kind_at p 0) subquery_expression) && some_clause asked (records 0 p))) where
  same_head : kind_at p 0 ≡ kind_at s i
  same_head = sym (kind-of p (base + i) 0) ∙ ap (λ (r : Rec). r.kind) (head-part s base i h q) ∙ kind-of s base i

  pub hands-visited : x ≡ true → kind_at s i ≡ subquery_expression → ⊥
  hands-visited y z =
      let w : true ≡ false = sym y ∙ e ∙ rw (eq-eqb (kind_at p 0) subquery_expression (same_head ∙ z)) in
      let v : ◌≡◌ {A = ℕ} 0 1 = cc in
      omega arith

  module _ (src : List ℕ) (f : Forest) where
    still : some_clause asked (records 0 p) ≡ false
        → collected (own_rows asked src) (node (record_at s base i) (kids (records (base + i) p)) f) ≡ collected (own_rows asked src) f
    unfolding collected kids from
    still c =
        let r : Rec = record_at p (base + i) 0 in
        let rs : List Rec = from p (base + i) 1 in
        let whole : records (base + i) p ≡ r ∷ rs = from_cons p (base + i) 0 some in
        let none : some_clause asked (r ∷ rs) ≡ false = rw (← whole) (clause-run asked p (base + i) 0 0 _ ∙ c) in
        let below : Forest = level (r.depth + 1) rs in
        let n = own-none src asked r rs below none in
        rw (whole, ← head-part s base i h q, gives_none src asked r.kind below n.0 (quiet src asked (r.depth + 1) rs n.1))

    pub quiet-node : x ≡ false → collected (own_rows asked src) (node (record_at s base i) (kids (records (base + i) p)) f) ≡ collected (own_rows asked src) f
    quiet-node y = go (eqb (kind_at p 0) subquery_expression) refl (sym e ∙ y)
      where
        go : (b : Bool) → eqb (kind_at p 0) subquery_expression ≡ b → (not b && some_clause asked (records 0 p)) ≡ false
            → collected (own_rows asked src) (node (record_at s base i) (kids (records (base + i) p)) f) ≡ collected (own_rows asked src) f
        go true z w = collected-sub (own_rows asked src) s base i f (kids (records (base + i) p)) (sym same_head ∙ eqb-true (kind_at p 0) subquery_expression z)
        go false z w = still w

-- a token adds nothing to what a walk writes
pub tokens-pass : {E : Type 0} (row : E → List ℕ) (own : ℕ → Forest → List E) (out : List ℕ) (at : ℕ) (r : Rec) (f : Forest)
    → writing row (collected own) out at (token r f) ≡ writing row (collected own) out at f
unfolding collected
tokens-pass row own out at r f = writing-turn row (collected own) (collected own) (token r f) f refl (written_none row out at)
