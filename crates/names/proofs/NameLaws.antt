-- Names token by token: what a loop over the direct tokens of a node makes of each record.
-- Assumes nothing.
use Prim.Native.Nat.{ℕ, ◌≤◌, ◌<◌}
use mathlib.Core.Path.{◌≡◌, refl, sym, ◌∙◌}
use mathlib.Core.Bool.{Bool, true, false, cond, not}
use mathlib.Core.Logic.{⊎_elim}
use mathlib.Core.List.{List, [], ◌∷◌}
use native.Mathlib.Omega.{arith}
use borrow.Author.Tests.{eq-eqb, ne_eqb}
use Rattle.std.specs.Prelude.{Option, Some, None}
use Rattle.records.specs.declared.record.Rec.{Rec}
use Rattle.records.specs.Kinds.{last_node, bare_word, quoted_identifier}
use Rattle.records.specs.Table.{count, kind_at, record_at}
use Rattle.forest.specs.Forest.{Forest, nil, token, node}
use Rattle.text.specs.Text.{bytes_of, text, says}
use Rattle.forest.proofs.Walks.{Walk, walk_here}
use Rattle.forest.proofs.Laws.{node-or-token}
use Rattle.names.specs.declared.names.NameBinding.{NameBinding}
use Rattle.names.specs.Names.{is_part, is_name, is_as, direct, binding, first_named, last_named, with_item}

-- ---- texts

module _ (src : List ℕ) (t : Rec) where
  pub as_said : {a : Bool} {w x : List ℕ} → x ≡ text src t.start t.end → w ≡ 65 ∷ 83 ∷ [] → a ≡ says w x → a ≡ is_as src t
  unfolding is_as bytes_of
  as_said q w e = rw (w, q) at e

  pub name-quoted : t.kind ≡ quoted_identifier → true ≡ is_name src t
  unfolding is_name
  name-quoted h = rw (eq-eqb t.kind quoted_identifier h)

  pub name-bare : {a : Bool} → t.kind ≡ bare_word → a ≡ is_as src t → not a ≡ is_name src t
  unfolding is_name
  name-bare h e = rw (ne_eqb t.kind quoted_identifier (λ x. omega arith), eq-eqb t.kind bare_word h, e)

  pub name-none : (t.kind ≡ quoted_identifier → ⊥) → (t.kind ≡ bare_word → ⊥) → false ≡ is_name src t
  unfolding is_name
  name-none h g = rw (ne_eqb t.kind quoted_identifier h, ne_eqb t.kind bare_word g)

-- ---- a test on tokens only

-- a node is no name, and no part of one
name-node : (src : List ℕ) (t : Rec) → t.kind ≤ last_node → is_name src t ≡ false
unfolding is_name
name-node src t h = rw (ne_eqb t.kind quoted_identifier (λ e. omega arith), ne_eqb t.kind bare_word (λ e. omega arith))

pub part-node : (t : Rec) → t.kind ≤ last_node → is_part t ≡ false
unfolding is_part
part-node t h = rw (ne_eqb t.kind quoted_identifier (λ e. omega arith), ne_eqb t.kind bare_word (λ e. omega arith))

name-token : (src : List ℕ) (t : Rec) → is_name src t ≡ true → last_node < t.kind
name-token src t e =
    ⊎_elim
    (λ h. let f = name-node src t h in let z : ◌≡◌ {A = ℕ} 0 1 = absurd (bad (sym e ∙ f)) in absurd (omega arith))
    (λ h. h)
    (node-or-token t.kind)
  where
    bad : true ≡ false → ⊥
    bad q = let z : ◌≡◌ {A = ℕ} 0 1 = cc in omega arith

name-at : (src s : List ℕ) (base i : ℕ) → is_name src (record_at s base i) ≡ true → last_node < kind_at s i
unfolding record_at
name-at src s base i e = name-token src (record_at s base i) e

-- ---- the direct tokens

module _ (test : Rec → Bool) (t : Rec) where
  pub direct-yes : (f : Forest) → test t ≡ true → direct test (token t f) ≡ t ∷ direct test f
  unfolding direct
  direct-yes f e = rw e

  pub direct-no : (f : Forest) → test t ≡ false → direct test (token t f) ≡ direct test f
  unfolding direct
  direct-no f e = rw e

  pub direct-node : (b f : Forest) → direct test (node t b f) ≡ direct test f
  unfolding direct
  direct-node b f = refl

-- ---- the first name, and the last

module _ (src : List ℕ) (r t : Rec) where
  pub first-here : (f : Forest) → is_name src t ≡ true → with_item src r (token t f) ≡ Some (binding src r t)
  unfolding first_named
  first-here f e = rw (direct-yes (is_name src) t f e)

  pub first_on : (f : Forest) → is_name src t ≡ false → with_item src r (token t f) ≡ with_item src r f
  first_on f e = rw (direct-no (is_name src) t f e)

  pub first-over : (b f : Forest) → with_item src r (node t b f) ≡ with_item src r f
  first-over b f = rw (direct-node (is_name src) t b f)

-- a loop for the first name ends at a token that is one
pub first-stop : (src : List ℕ) {s : List ℕ} {base i : ℕ} {r r' t : Rec} {b : NameBinding} {n : Bool} {«all» : Option NameBinding} → Walk s base i (with_item src r) «all» → i < count s
    → t ≡ record_at s base i → n ≡ is_name src t → n ≡ true → r' ≡ r → b ≡ binding src r' t → Some b ≡ «all»
first-stop src {s} {base} {i} {r} w h t n y q b =
    let e : is_name src (record_at s base i) ≡ true = rw (← t, ← n) y in
    rw (b, q, t) (sym (first-here src r (record_at s base i) _ e) ∙ walk_here w h (name-at src s base i e))

pub first-end : (src : List ℕ) (r : Rec) → None ≡ with_item src r nil
unfolding first_named direct
first-end src r = refl

-- the last name where the node r has bound b so far
abbrev pub last_from : List ℕ → Rec → Option NameBinding → Forest → Option NameBinding
last_from src r b f = last_named src r b (direct (is_name src) f)

module _ (src : List ℕ) (r t : Rec) (b : Option NameBinding) {b' : Option NameBinding} (e : b' ≡ cond (is_name src t) (Some (binding src r t)) b) where
  pub last-token : (f : Forest) → last_from src r b (token t f) ≡ last_from src r b' f
  unfolding direct last_named
  last-token f = rw e (go (is_name src t))
    where
      go : (n : Bool) → last_named src r b (cond n (t ∷ direct (is_name src) f) (direct (is_name src) f)) ≡ last_named src r (cond n (Some (binding src r t)) b) (direct (is_name src) f)
      go true = refl
      go false = refl

  pub last-over : (below f : Forest) → t.kind ≤ last_node → last_from src r b (node t below f) ≡ last_from src r b' f
  unfolding direct
  last-over below f h = rw (e, name-node src t h)

pub last_end : (src : List ℕ) (r : Rec) (b : Option NameBinding) → b ≡ last_from src r b nil
unfolding direct last_named
last_end src r b = refl
