-- What the entry of a token, and a turn of the walk, add to the list.
-- Assumes nothing.
use Prim.Native.Nat.{ℕ, ◌+◌, ◌*◌, ◌≤◌, ◌<◌}
use mathlib.Core.Path.{◌≡◌, refl, sym, ◌∙◌}
use native.Mathlib.Omega.{arith}
use mathlib.Core.List.{List, [], ◌∷◌, ◌++◌, append-nil}
use native.Mathlib.Numerals.{add-one}
use borrow.Author.Tests.{le-leb, lt-leb}
use Rattle.std.specs.Prelude.{Option, Some, None}
use Rattle.records.specs.Kinds.{last_node}
use Rattle.records.specs.Table.{kind_at, start_at, end_at, parent_at}
use Rattle.lent.specs.Numbers.{number_bytes}
use Rattle.lent.specs.Lists.{put, Written}
use Rattle.lent.proofs.Writes.{written_none, written_one, written_then}
use Rattle.classes.specs.declared.token_class.TokenClass.{TokenClass}
use Rattle.classes.specs.TokenClass.{class_of, number_of}
use Rattle.classes.specs.declared.token_class.TokenClass.TheVariants.{Keyword, Function, StringLiteral, Number, Comment, Operator, Variable, TypeName, Parameter, Property}
use Rattle.class_list.specs.Classes.{entry_of, class_row}
use Rattle.class_list.specs.inner.Carried.{given_at, given_below}

-- ---- its entry
module _ (a b : ℕ) (out : List ℕ) (at : ℕ) where
  pub class-none : Written class_row (entry_of None a b) out at out at
  unfolding entry_of
  class-none = written_none class_row out at

  pub class-some : (c : TokenClass) {out' : List ℕ} {at' : ℕ} → out' ≡ put out at (a ∷ b ∷ number_of c ∷ []) → at' ≡ at + number_bytes * 3
      → Written class_row (entry_of (Some c) a b) out at out' at'
  unfolding entry_of
  class-some c q r = written_one class_row (record { start = a; end = b; class = number_of c }) out at q r

-- ---- what a turn of the walk adds
pub below_next : (source t : List ℕ) (i : ℕ) → given_below source t (i + 1) ≡ given_below source t i ++ given_at source t i
unfolding given_below
below_next source t i = rw add-one

at-node : (source t : List ℕ) (i : ℕ) → kind_at t i ≤ last_node → given_at source t i ≡ []
unfolding given_at
at-node source t i h = rw (le-leb (kind_at t i) last_node h)

at-token : (source t : List ℕ) (i : ℕ) → last_node < kind_at t i
    → given_at source t i ≡ entry_of (class_of source (kind_at t (parent_at t i)) (kind_at t i) (start_at t i) (end_at t i)) (start_at t i) (end_at t i)
unfolding given_at
at-token source t i h = rw (lt-leb (kind_at t i) last_node h)

module _ (source t out : List ℕ) where
  pub class-start : Written class_row (given_below source t 0) out 0 out 0
  unfolding given_below
  class-start = written_none class_row out 0

  module _ (i : ℕ) {next : ℕ} {out' : List ℕ} (w : Written class_row (given_below source t i) out 0 out' next) where
    pub class-over : kind_at t i ≤ last_node → Written class_row (given_below source t (i + 1)) out 0 out' next
    class-over h = rw (below_next source t i, at-node source t i h, append-nil (given_below source t i)) w

    pub class-put : {k a b u p next' : ℕ} {c : Option TokenClass} {out'' : List ℕ} → c ≡ class_of source p k a b → p ≡ kind_at t u → u ≡ parent_at t i → k ≡ kind_at t i → a ≡ start_at t i → b ≡ end_at t i
        → last_node < k → Written class_row (entry_of c a b) out' next out'' next' → Written class_row (given_below source t (i + 1)) out 0 out'' next'
    class-put c p u k a b h v = rw (below_next source t i, at-token source t i (rw k at h)) (written_then class_row w (rw (c, p, u, k, a, b) at v))
