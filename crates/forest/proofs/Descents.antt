-- A descent in two loops: the inner one goes over the children of a stretch's first record to the first that is taken, and the outer
-- one goes on with that child's stretch. It gathers a G on its way, and answers `done g f` at the end, where f is the children of the
-- last node: so the answer may read the last stretch too.
--     descent-start                   before the first turn, with record 0 gathered
--     descent-walk                    the inner loop begins
--     descent-on                      after a child that is not taken
--     descent-into                    at the child that is taken, whose stretch is p: the outer loop's next turn
--     descent-tail                    the same where p is all the rest of s from the child on: no search for the stretch's end
--     descent-end                     after the last child
-- Assumes nothing.
use mathlib.Core.Path.{◌≡◌, refl, sym, ap, ◌∙◌}
use mathlib.Core.Logic.{⊎_elim}
use mathlib.Core.Bool.{Bool, true, false, cond, ◌&&◌}
use mathlib.Core.List.{List, ◌∷◌}
use Prim.Native.Nat.{ℕ, ◌+◌, ◌*◌, ◌≤◌, ◌<◌}
use native.Mathlib.Omega.{arith}
use borrow.Author.Tests.{le-leb, lt-leb}
use lib.ListN.{drop}
use Rattle.records.specs.declared.record.Rec.{Rec}
use Rattle.records.specs.Kinds.{is_node, last_node}
use Rattle.records.specs.Table.{record_bytes, count, kind_at, record_at, records, part}
use Rattle.forest.specs.Forest.{Forest, node, kids, stretch_end, Child}
use Rattle.forest.specs.Descent.{path, innermost, path_of, innermost_of, along}
use Rattle.forest.proofs.Laws.{node-or-token, from_cons, kids-tail}
use Rattle.forest.proofs.Walks.{Walk, walk_from, walk_end, walk-token, walk-over, walk-into}

-- what a descent does: is a node taken, what a node adds to what is gathered, and the answer
pub record Descent (G A : Type 0) : Type 0 where
  pub takes : Rec → Bool
  pub step : G → Rec → G
  pub done : G → Forest → A

-- the answer when the siblings f are all that is left of the children `here`
unfoldable pub onward : {G A : Type 0} → Descent G A → G → Forest → Forest → A
onward D g here f = D.done (along D.step g (path D.takes f)) (innermost D.takes here f)

module _ {G A : Type 0} (D : Descent G A) (g : G) (here : Forest) (r : Rec) (below rest : Forest) where
  abbrev chosen : Bool → A
  chosen b =
      D.done (along D.step g (cond b (r ∷ path D.takes below) (path D.takes rest)))
      (cond b (innermost D.takes below below) (innermost D.takes here rest))

  onward-taken : D.takes r ≡ true → onward D g here (node r below rest) ≡ onward D (D.step g r) below below
  unfolding onward path innermost along
  onward-taken e = ap chosen e

  onward-other : D.takes r ≡ false → onward D g here (node r below rest) ≡ onward D g here rest
  unfolding onward path innermost
  onward-other e = ap chosen e

abbrev pub answer : {G A : Type 0} → Descent G A → G → List Rec → A
answer D g rs = D.done (along D.step g (path_of D.takes rs)) (innermost_of D.takes rs)

-- at the head of the outer loop, and of the inner loop
pub record Down {G A : Type 0} (D : Descent G A) (s : List ℕ) (base : ℕ) (g : G) («all» : A) : Type 0 where
  pub left : onward D g (kids (records base s)) (kids (records base s)) ≡ «all»

pub record Level {G A : Type 0} (D : Descent G A) (s : List ℕ) (base i : ℕ) (g : G) («all» : A) : Type 0 where
  pub walk : Walk s base i (onward D g (kids (records base s))) «all»

module _ {G A : Type 0} (D : Descent G A) (t : List ℕ) (g : G) where
  pub descent-start : {g' : G} → 0 < count t → g' ≡ D.step g (record_at t 0 0) → Down D t 0 g' (answer D g (records 0 t))
  unfolding onward path_of innermost_of along
  descent-start h e = record { left = rw (e, from_cons t 0 0 h) }

module _ {G A : Type 0} {D : Descent G A} {s : List ℕ} {base : ℕ} {g : G} {«all» : A} where
  pub descent-walk : {i : ℕ} → Down D s base g «all» → 0 < count s → Child s 1 i → Level D s base i g «all»
  descent-walk d h c = record { walk = walk_from s base (onward D g (kids (records base s))) d.left h c }

  module _ {i : ℕ} (w : Level D s base i g «all») where
    pub descent-end : count s ≤ i → D.done g (kids (records base s)) ≡ «all»
    unfolding onward path innermost along
    descent-end h = walk_end w.walk h

    module _ (h : i < count s) where
      pub descent-on : {r : ℕ} → (is_node (kind_at s i) && D.takes (record_at s base i)) ≡ false → Child s (i + 1) r → Level D s base r g «all»
      unfolding onward path innermost
      descent-on e c =
          ⊎_elim
          (λ t. let q : D.takes (record_at s base i) ≡ false = rw (le-leb (kind_at s i) last_node t) at e in record { walk = walk-over w.walk h t c (λ b f. onward-other D g _ _ b f q) })
          (λ t. record { walk = walk-token w.walk h t c (λ f. refl) })
          (node-or-token (kind_at s i))

      pub descent-into : {p : List ℕ} {g' : G} → (is_node (kind_at s i) && D.takes (record_at s base i)) ≡ true → p ≡ part s i (stretch_end s i)
          → g' ≡ D.step g (record_at s base i) → Down D p (base + i) g' «all»
      descent-into {p} e q n =
          ⊎_elim
          (λ t.
          let y : D.takes (record_at s base i) ≡ true = rw (le-leb (kind_at s i) last_node t) at e in
          record { left = rw n (sym (onward-taken D g _ _ _ _ y) ∙ walk-into w.walk h t q) })
          (λ t.
          let f : false ≡ true = rw (lt-leb (kind_at s i) last_node t) at e in
          let z : ◌≡◌ {A = ℕ} 0 1 = cc in
          absurd (omega arith))
          (node-or-token (kind_at s i))

      pub descent-tail : {p : List ℕ} {g' : G} → (is_node (kind_at s i) && D.takes (record_at s base i)) ≡ true → p ≡ drop (record_bytes * i) s
          → g' ≡ D.step g (record_at s base i) → Down D p (base + i) g' «all»
      descent-tail {p} e q n =
          let k : kids (records (base + i) p) ≡ kids (records (base + i) (part s i (stretch_end s i))) = rw q (kids-tail s base _ i h refl) in
          record { left = rw k (descent-into e refl n).left }
