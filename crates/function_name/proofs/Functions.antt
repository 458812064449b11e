-- A function's name.
-- Assumes nothing.
use Prim.Native.Nat.{ℕ, ◌+◌, ◌*◌, ◌≤◌, ◌<◌}
use mathlib.Core.Path.{◌≡◌, refl, sym, ◌∙◌}
use mathlib.Core.Logic.{⊎_elim}
use mathlib.Core.Bool.{Bool, true, false, cond}
use mathlib.Core.List.{List}
use native.Mathlib.Omega.{arith}
use borrow.Author.Tests.{eq-eqb, ne_eqb}
use lib.Dec.{eqb}
use lib.ListN.{drop}
use Rattle.std.specs.Prelude.{Option, None, Some}
use Rattle.records.specs.declared.record.Rec.{Rec}
use Rattle.records.specs.Kinds.{last_node, bare_word, opening_round, identifier}
use Rattle.records.specs.Table.{record_bytes, count, kind_at, record_at, from, records}
use Rattle.forest.specs.Forest.{Forest, token, node, kids, children, Child}
use Rattle.forest.proofs.Laws.{node-or-token, records-tail}
use Rattle.forest.proofs.Walks.{walk_here, walk-at-node, walk-on}
use Rattle.records.specs.declared.range.Range.{Range}
use Rattle.records.specs.Ranges.{span}
use Rattle.tokens.specs.Function.{bare_word_in, or_name, function_name}
use Rattle.tokens.specs.inner.Turns.{name_at, naming, naming_of, naming_at}
use Rattle.forest.proofs.Walking.{Walks}

-- ---- the first direct BareWord

module _ {s : List ℕ} {i : ℕ} (w : Walks s i bare_word_in bare_word_in) (h : i < count s) where
  pub bare-here : {k : ℕ} → k ≡ kind_at s i → k ≡ bare_word → (base : ℕ) → Some (name_at s i) ≡ bare_word_in (kids (records base s))
  unfolding name_at bare_word_in record_at
  bare-here q e base = rw (← q, eq-eqb _ _ e) at (walk_here (w.at base) h (omega arith))

  pub bare-next : {r : ℕ} → (kind_at s i ≡ bare_word → ⊥) → Child s (i + 1) r → Walks s r bare_word_in bare_word_in
  unfolding bare_word_in record_at
  bare-next n c =
      record {
        at = λ base.
            ⊎_elim
            (λ g. walk-on (w.at base) h (walk-at-node (w.at base) h g) c)
            (λ g. walk-on (w.at base) h (rw (ne_eqb _ _ n) at (walk_here (w.at base) h g)) c)
            (node-or-token (kind_at s i));
      }

-- ---- the function's name, by what a child says

pub naming-none : {n : Option Range} → n ≡ None → None ≡ naming n
unfolding naming
naming-none e = rw e

pub naming-some : {n : Option Range} {r : Range} → n ≡ Some r → Some (Some r) ≡ naming n
unfolding naming
naming-some e = rw e

-- the first BareWord below record i, read in the rest of the stretch from it on
pub named_in : (s : List ℕ) (base i : ℕ) {p : List ℕ} {n : Option Range} → p ≡ drop (record_bytes * i) s → ((b : ℕ) → n ≡ bare_word_in (kids (records b p)))
    → bare_word_in (kids (from s base i)) ≡ n
named_in s base i e q = sym (q (base + i) ∙ rw (e, records-tail s base i))

-- what is left to do after a child that says n
left : Option (Option Range) → Option Range → Option Range
left None on = on
left (Some n) on = n

left-name : (n on : Option Range) → or_name n on ≡ left (naming n) on
unfolding or_name naming left
left-name None on = refl
left-name (Some r) on = refl

left-cond : (b : Bool) (x y : Option (Option Range)) (on : Option Range) → left (cond b x y) on ≡ cond b (left x on) (left y on)
left-cond true x y on = refl
left-cond false x y on = refl

left-token : (r : Rec) (f b : Forest) → last_node < r.kind → function_name (token r f) ≡ left (naming_of r.kind (span r) b) (function_name f)
unfolding function_name naming_of left
left-token r f b h =
    rw (ne_eqb r.kind identifier (omega arith), left-cond (eqb r.kind bare_word), left-cond (eqb r.kind opening_round))

left-node : (r : Rec) (f b : Forest) → r.kind ≤ last_node → function_name (node r b f) ≡ left (naming_of r.kind (span r) b) (function_name f)
unfolding function_name naming_of left
left-node r f b h =
    rw (ne_eqb r.kind bare_word (omega arith), ne_eqb r.kind opening_round (omega arith), left-cond (eqb r.kind identifier), left-name (bare_word_in b))

module _ {s : List ℕ} {i : ℕ} (w : Walks s i function_name function_name) (h : i < count s) where
  name-left : (base : ℕ) → left (naming_at s base i) (function_name (children s base (i + 1))) ≡ function_name (kids (records base s))
  unfolding name_at record_at
  name-left base =
      ⊎_elim
      (λ g. sym (left-node (record_at s base i) _ _ g) ∙ walk-at-node (w.at base) h g)
      (λ g. sym (left-token (record_at s base i) _ _ g) ∙ walk_here (w.at base) h g)
      (node-or-token (kind_at s i))

  pub name-here : {n : Option Range} {x : Option (Option Range)} → ((base : ℕ) → x ≡ naming_at s base i) → x ≡ Some n → (base : ℕ) → n ≡ function_name (kids (records base s))
  unfolding left
  name-here e q base = rw (← e base, q) at (name-left base)

  pub name-next : {r : ℕ} {x : Option (Option Range)} → ((base : ℕ) → x ≡ naming_at s base i) → x ≡ None → Child s (i + 1) r → Walks s r function_name function_name
  unfolding left
  name-next e q c = record { at = λ base. walk-on (w.at base) h (rw (← e base, q) at (name-left base)) c }
