-- Calls one after the other:
--     Gives, gives_then    a call gives something of which P is true, and then the next
--     Came, came-then      the same, or it stops, where one of some tokens is a lone quote mark
-- Assumes nothing.
use Prim.Native.Nat.{ℕ}
use mathlib.Core.Path.{◌≡◌, refl, ◌∙◌}
use mathlib.Core.Bool.{Bool, true, false, ◌||◌}
use mathlib.Core.List.{List, [], ◌∷◌, ◌++◌}
use Rattle.records.specs.declared.record.Rec.{Rec}
use Rattle.rust.specs.Rust.{Call, stops, gives, ◌>>=◌}
use Rattle.rust.specs.ScopeRs.{is_lone, any_lone}

-- a call that gives x, and then the next; and one that stops
module _ {A B : Type 0} {run : Call A} (next : A → Call B) where
  pub then_is : {x : A} → run ≡ gives x → (run >>= next) ≡ next x
  unfolding ◌>>=◌
  then_is e = rw e

  pub then-stops : run ≡ stops → (run >>= next) ≡ stops
  unfolding ◌>>=◌
  then-stops e = rw e

pub record Gives {A : Type 0} (run : Call A) (P : A → Type 0) : Type 0 where
  pub it : A
  pub gave : run ≡ gives it
  pub so : P it

pub gives_so : {A : Type 0} {run : Call A} {P Q : A → Type 0} → ((x : A) → P x → Q x) → Gives run P → Gives run Q
gives_so f g = record { it = g.it; gave = g.gave; so = f g.it g.so }

module _ {A B : Type 0} {run : Call A} {P : A → Type 0} (next : A → Call B) {Q : B → Type 0} where
  pub gives_then : Gives run P → ((x : A) → P x → Gives (next x) Q) → Gives (run >>= next) Q
  gives_then g f = let n = f g.it g.so in record { it = n.it; gave = then_is next g.gave ∙ n.gave; so = n.so }

-- ---- with stops

any_append : (src : List ℕ) (u v : List Rec) → any_lone src (u ++ v) ≡ (any_lone src u || any_lone src v)
unfolding any_lone
any_append src [] v = refl
any_append src (t ∷ u) v = rw (any_append src u v) (go (is_lone src t))
  where
    go : (a : Bool) → (a || (any_lone src u || any_lone src v)) ≡ ((a || any_lone src u) || any_lone src v)
    go true = refl
    go false = refl

-- where a token of u is a lone quote mark the call stops; else it gives something of which P is true
pub data Came {A : Type 0} (src : List ℕ) (u : List Rec) (run : Call A) (P : A → Type 0) : Type 0 where
  halts : any_lone src u ≡ true → run ≡ stops → Came src u run P
  goes : any_lone src u ≡ false → Gives run P → Came src u run P

-- it gives x
pub came : {A : Type 0} {src : List ℕ} (x : A) {P : A → Type 0} → P x → Came src [] (gives x) P
unfolding any_lone
came x p = goes refl (record { it = x; gave = refl; so = p })

-- what equals a call comes as it does
pub came-eq : {A : Type 0} {src : List ℕ} {u : List Rec} {run run' : Call A} {P : A → Type 0} → run ≡ run' → Came src u run' P → Came src u run P
came-eq p (halts e r) = halts e (p ∙ r)
came-eq p (goes e g) = goes e (record { it = g.it; gave = p ∙ g.gave; so = g.so })

pub came-so : {A : Type 0} {src : List ℕ} {u : List Rec} {run : Call A} {P Q : A → Type 0} → ((x : A) → P x → Q x) → Came src u run P → Came src u run Q
came-so f (halts e r) = halts e r
came-so f (goes e g) = goes e (record { it = g.it; gave = g.gave; so = f g.it g.so })

module _ {A B : Type 0} {src : List ℕ} {u v : List Rec} {run : Call A} {P : A → Type 0} (next : A → Call B) {Q : B → Type 0} where
  pub came-then : Came src u run P → ((x : A) → P x → Came src v (next x) Q) → Came src (u ++ v) (run >>= next) Q
  came-then (halts e r) f = halts (rw (any_append src u v, e)) (then-stops next r)
  came-then (goes e g) f = on (f g.it g.so)
    where
      on : Came src v (next g.it) Q → Came src (u ++ v) (run >>= next) Q
      on (halts d r) = halts (rw (any_append src u v, e) d) (then_is next g.gave ∙ r)
      on (goes d n) = goes (rw (any_append src u v, e) d) (record { it = n.it; gave = then_is next g.gave ∙ n.gave; so = n.so })
