-- The pending reference by the records that make it.
--     waiting-..     what each case of it is
--     waits-..       is there one
--     alias-set      after an alias it is the reference that the alias makes of it
-- Assumes nothing.
use Prim.Native.Nat.{ℕ, ◌+◌}
use mathlib.Core.Path.{◌≡◌, refl, sym, ◌∙◌}
use mathlib.Core.Bool.{Bool}
use mathlib.Core.List.{List}
use Rattle.references.specs.declared.pending.TableRef.{TableRef}
use Rattle.std.specs.Prelude.{Option, Some, None}
use Rattle.records.specs.Table.{record_at, records, part}
use Rattle.forest.specs.Forest.{kids, stretch_end}
use Rattle.names.specs.declared.names.NameBinding.{NameBinding}
use Rattle.names.specs.Names.{is_part, direct, alias_in}
use Rattle.references.specs.References.{fresh}
use Rattle.references.specs.inner.Pending.{pends}
use Rattle.tables.specs.Tables.{aliased}
use Rattle.tables.specs.inner.Waiting.{fresh_at, bound_at, pending_at, newer, alias_after}

unnamed-keeps : (p : Option TableRef) → p ≡ aliased p None
unfolding aliased
unnamed-keeps None = refl
unnamed-keeps (Some t) = refl

later-sets : (p : Option TableRef) (c : Option NameBinding) (z : NameBinding) → aliased p (Some z) ≡ aliased (aliased p c) (Some z)
unfolding aliased
later-sets None c z = refl
later-sets (Some t) None z = refl
later-sets (Some t) (Some y) z = refl

alias-keeps : (p : Option TableRef) (b : Option NameBinding) → pends (aliased p b) ≡ pends p
unfolding aliased
alias-keeps None b = refl
alias-keeps (Some t) None = refl
alias-keeps (Some t) (Some z) = refl

module _ (src : List ℕ) (base : ℕ) (s : List ℕ) where
  -- ---- the cases

  module _ (n : ℕ) {t : List ℕ} (p : t ≡ part s n (stretch_end s n)) {r : Option TableRef}
      (e : r ≡ fresh src (base + n) (direct is_part (kids (records (base + n) t)))) where
    pub waiting-name : r ≡ pending_at src base s (Some n) None
    unfolding pending_at fresh_at
    waiting-name = rw (← p) e

    pub waiting-both : (a : ℕ) {u : List ℕ} → u ≡ part s a (stretch_end s a) → {b : Option NameBinding} → b ≡ alias_in src (record_at u (base + a) 0) (kids (records (base + a) u))
        → {x : Option TableRef} → x ≡ aliased r b → x ≡ pending_at src base s (Some n) (Some a)
    unfolding pending_at fresh_at bound_at
    waiting-both a q f g = rw (← p, ← q, ← e, ← f) g

  pub waits : (n : ℕ) (a : Option ℕ) {t : List ℕ} → t ≡ part s n (stretch_end s n) → {x : Bool}
      → x ≡ pends (fresh src (base + n) (direct is_part (kids (records (base + n) t)))) → x ≡ pends (pending_at src base s (Some n) a)
  unfolding pending_at fresh_at
  waits n None p e = rw (← p) e
  waits n (Some a) p e = rw (← p) (e ∙ sym (alias-keeps _ _))

  pub bound-at : (i : ℕ) {t : List ℕ} {b : Option NameBinding} → t ≡ part s i (stretch_end s i) → b ≡ alias_in src (record_at t (base + i) 0) (kids (records (base + i) t)) → b ≡ bound_at src base s i
  unfolding bound_at
  bound-at i p e = rw (← p) e

  -- ---- after an alias
  module _ (a i : ℕ) {b : Option NameBinding} (e : b ≡ bound_at src base s i) where
    pub after-unnamed : b ≡ None → a ≡ alias_after src base s (Some a) i
    unfolding alias_after newer
    after-unnamed q = rw (← e, q)

    pub after-named : {x : NameBinding} → b ≡ Some x → i ≡ alias_after src base s (Some a) i
    unfolding alias_after newer
    after-named q = rw (← e, q)

  -- THE LAW: by the alias that is set after it, the reference is what the alias makes of it
  pub alias-set : (n a : Option ℕ) (i : ℕ) → pending_at src base s n (Some (alias_after src base s a i)) ≡ aliased (pending_at src base s n a) (bound_at src base s i)
  unfolding pending_at alias_after newer aliased
  alias-set None a i = refl
  alias-set (Some n) None i = refl
  alias-set (Some n) (Some a) i = go (bound_at src base s i) refl
    where
      go : (b : Option NameBinding) → bound_at src base s i ≡ b
          → aliased (fresh_at src base s n) (bound_at src base s (newer b a i)) ≡ aliased (aliased (fresh_at src base s n) (bound_at src base s a)) b
      go None e = unnamed-keeps (aliased (fresh_at src base s n) (bound_at src base s a))
      go (Some z) e = rw e (later-sets (fresh_at src base s n) (bound_at src base s a) z)
