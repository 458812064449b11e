-- The roots' lists hold exactly the names that are reached: `Exact`, from the one sum of `Counts`.
-- Assumes nothing.
use mathlib.Core.Path.{◌≡◌, refl, sym, ap, ◌∙◌}
use mathlib.Core.List.{List, [], ◌∷◌, Memᴰ}
use mathlib.Core.Bool.{Bool, true, false, cond, ◌&&◌, and-false, and-true}
use Prim.Native.Nat.{ℕ, ◌*◌, ◌≤◌, ◌<◌}
use native.Mathlib.Omega.{arith}
use native.Mathlib.Nat.{mul-one}
use borrow.Author.Tests.{eq-eqb, ne_eqb}
use lib.Dec.{eqb}
use lib.ListN.{length}
use Rattle.records.specs.declared.record.Rec.{Rec}
use Rattle.records.specs.Table.{count, record_at, records}
use Rattle.forest.specs.Forest.{Forest, nil, node, kids}
use Rattle.forest.specs.Places.{Place, places, nodes_of, sum, Numbered}
use Rattle.forest.proofs.Places.{numbered}
use Rattle.references.specs.declared.pending.TableRef.{TableRef}
use Rattle.roots.specs.Reach.{is_root, is_table_name, refs, root_is, reaches, times, Exact}
use Rattle.roots.proofs.Counts.{hits, reaches-hits, nearest, weight, due, lists, balanced}

-- ---- sums of which few terms are left

pub sum_same : {A : Type 0} (f g : A → ℕ) (xs : List A) → ((x : A) → f x ≡ g x) → sum f xs ≡ sum g xs
unfolding sum
sum_same f g [] h = refl
sum_same f g (x ∷ xs) h = rw (h x, sum_same f g xs h)

sum-none : {A : Type 0} (f : A → ℕ) (xs : List A) → ((x : A) → Memᴰ x xs → f x ≡ 0) → sum f xs ≡ 0
unfolding sum
sum-none f [] h = refl
sum-none f (x ∷ xs) h = omega (arith, h x (Memᴰ.head refl), sum-none f xs (λ y m. h y (Memᴰ.tail m)))

abbrev one : ℕ → Place → ℕ
one x p = cond (eqb p.self.index x) 1 0

one-is : (x : ℕ) (p : Place) → p.self.index ≡ x → one x p ≡ 1
one-is x p e = rw (eq-eqb p.self.index x e)

absent : (f : Place → ℕ) (x : ℕ) → ((p : Place) → (p.self.index ≡ x → ⊥) → f p ≡ 0) → (ps : List Place) → sum (one x) ps ≡ 0 → sum f ps ≡ 0
unfolding sum
absent f x h [] z = refl
absent f x h (p ∷ ps) z = omega (arith, h p (λ e. omega (arith, one-is x p e)), absent f x h ps (omega arith))

present : (x : ℕ) (q : Place) → q.self.index ≡ x → (ps : List Place) → Memᴰ q ps → 1 ≤ sum (one x) ps
unfolding sum
present x q e [] x'' = elim x'' [ ]
present x q e (p ∷ ps) (Memᴰ.head s) = omega (arith, one-is x p (ap (λ (y : Place). y.self.index) (sym s) ∙ e))
present x q e (p ∷ ps) (Memᴰ.tail m) = omega (arith, present x q e ps m)

-- where no two nodes have one number, a sum that only the number of q can add to is q's term
pick : (f : Place → ℕ) (q : Place) → ((p : Place) → (p.self.index ≡ q.self.index → ⊥) → f p ≡ 0)
    → (ps : List Place) → Memᴰ q ps → Numbered ps → sum f ps ≡ f q
unfolding sum
pick f q h [] x'' n = elim x'' [ ]
pick f q h (p ∷ ps) (Memᴰ.head s) n =
    let u : one q.self.index p ≡ 1 = one-is q.self.index p (ap (λ (y : Place). y.self.index) (sym s)) in
    rw s (omega (arith, absent f q.self.index h ps (omega (arith, n q.self.index))))
pick f q h (p ∷ ps) (Memᴰ.tail m) n =
    let far : p.self.index ≡ q.self.index → ⊥ = λ e. omega (arith, one-is q.self.index p e, present q.self.index q refl ps m, n q.self.index) in
    omega (arith, h p far, pick f q h ps m (λ x. omega (arith, n x)))

-- ---- weights

weight-same : (u w : ℕ → ℕ) (es : List TableRef) → ((x : ℕ) → u x ≡ w x) → weight u es ≡ weight w es
weight-same u w es h = sum_same (λ (e : TableRef). u e.«record») (λ (e : TableRef). w e.«record») es (λ e. h e.«record»)

same_branch : (t : Bool) → ◌≡◌ {A = ℕ} (cond t 0 0) 0
same_branch true = refl
same_branch false = refl

near-is : (n : ℕ) (a : Rec) (more : List Rec) → root_is n (a ∷ more) ≡ eqb (nearest (a ∷ more)) n
unfolding root_is nearest
near-is n a [] = refl
near-is n a (b ∷ more) = rw (near-is n b more) (go (eqb a.kind 30))
  where
    go : (t : Bool) → cond t (eqb a.index n) (eqb (nearest (b ∷ more)) n) ≡ eqb (cond t a.index (nearest (b ∷ more))) n
    go true = refl
    go false = refl

-- the weight that tells root n and name x from all others
abbrev only : ℕ → ℕ → ℕ → ℕ → ℕ
only n x m y = cond (eqb m n && eqb y x) 1 0

only_here : (n x y : ℕ) → only n x n y ≡ cond (eqb y x) 1 0
only_here n x y = rw (eq-eqb n n refl)

only-root : (n x m y : ℕ) → (m ≡ n → ⊥) → only n x m y ≡ 0
only-root n x m y h = rw (ne_eqb m n h)

only-name : (n x m y : ℕ) → (y ≡ x → ⊥) → only n x m y ≡ 0
only-name n x m y h = rw (ne_eqb y x h, and-false (eqb m n))

module _ (src : List ℕ) where
  lists-far : (n x : ℕ) (p : Place) → (p.self.index ≡ n → ⊥) → lists src (only n x) p ≡ 0
  lists-far n x p h = rw (sum-none (λ (e : TableRef). only n x p.self.index e.«record») (refs src p) (λ e m. only-root n x p.self.index e.«record» h)) (same_branch (is_root p))

  lists-here : (x : ℕ) (p : Place) → is_root p ≡ true → lists src (only p.self.index x) p ≡ times x (refs src p)
  lists-here x p e = rw e (sum_same _ _ (refs src p) (λ r. only_here p.self.index x r.«record»))

  due-far : (n x : ℕ) (p : Place) → (p.self.index ≡ x → ⊥) → due src (only n x) p ≡ 0
  due-far n x p h =
      let z : hits p.above * only n x (nearest p.above) p.self.index ≡ 0 = rw (only-name n x (nearest p.above) p.self.index h) (omega arith) in
      rw z (same_branch (is_table_name p))

  times-test : (h : ℕ) (t : Bool) → h * cond t 1 0 ≡ cond t h 0
  times-test h true = omega arith
  times-test h false = omega arith

  due-here : (n : ℕ) (p : Place) → is_table_name p ≡ true → due src (only n p.self.index) p ≡ cond (root_is n p.above) (reaches p) 0
  unfolding hits root_is
  due-here n p e = rw (e, reaches-hits p.above, eq-eqb p.self.index p.self.index refl, and-true) (go p.above)
    where
      go : (above : List Rec) → hits above * cond (eqb (nearest above) n) 1 0 ≡ cond (root_is n above) (hits above) 0
      go [] = omega arith
      go (a ∷ more) = rw (near-is n a more) (times-test (hits (a ∷ more)) (eqb (nearest (a ∷ more)) n))

  due-none : (n x : ℕ) (p : Place) → (is_table_name p ≡ true → p.self.index ≡ x → ⊥) → due src (only n x) p ≡ 0
  due-none n x p h = go (is_table_name p) refl
    where
      go : (t : Bool) → is_table_name p ≡ t → due src (only n x) p ≡ 0
      go true e = due-far n x p (h e)
      go false e = rw e

  -- ---- the statement

  length-sum : {A : Type 0} (xs : List A) → sum (λ (x : A). 1) xs ≡ length xs
  unfolding sum
  length-sum [] = refl
  length-sum (x ∷ xs) = omega (arith, length-sum xs)

  total-lists : (p : Place) → cond (is_root p) (length (refs src p)) 0 ≡ lists src (λ m y. 1) p
  total-lists p = rw (length-sum (refs src p))

  total-due : (p : Place) → due src (λ m y. 1) p ≡ cond (is_table_name p) (reaches p) 0
  total-due p = rw (reaches-hits p.above, mul-one (hits p.above))

  module _ (r : Rec) (below : Forest) (numbered : Numbered (places [] (node r below nil))) where
    from-root : (root : Place) (x : ℕ) → Memᴰ root (places [] (node r below nil)) → is_root root ≡ true
        → times x (refs src root) ≡ sum (due src (only root.self.index x)) (places [] (node r below nil))
    from-root root x m e =
        sym (lists-here x root e)
        ∙ sym (pick (lists src (only root.self.index x)) root (λ p h. lists-far root.self.index x p h) (places [] (node r below nil)) m numbered)
        ∙ balanced src (only root.self.index x) r below

    pub exactly : Exact src (places [] (node r below nil))
    exactly =
        record {
          names = λ root p mr er mp ep.
              from-root root p.self.index mr er
              ∙ pick (due src (only root.self.index p.self.index)) p (λ q h. due-far root.self.index p.self.index q h) (places [] (node r below nil)) mp numbered
              ∙ due-here root.self.index p ep;
          others = λ root x mr er h.
              from-root root x mr er ∙ sum-none (due src (only root.self.index x)) (places [] (node r below nil)) (λ p m. due-none root.self.index x p (h p m));
          total = sum_same _ _ (places [] (node r below nil)) total-lists ∙ balanced src (λ m y. 1) r below ∙ sum_same _ _ (places [] (node r below nil)) total-due;
        }

-- of any table that has a record
pub table-exact : (src t : List ℕ) → 0 < count t → Exact src (nodes_of t)
table-exact src t h = exactly src (record_at t 0 0) (kids (records 0 t)) (numbered t h)
