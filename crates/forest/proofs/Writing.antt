-- A walk over a forest that writes entries. Nothing here knows what is written.
--     writing                       a walk's `rest`: what the buffer and the next place will be
--     writing-turn, writing-last    some of it is written; the last of it is
--     writing-end                   the last of it is where what is left to write keeps its form
-- Assumes nothing.
use mathlib.Core.Path.{◌≡◌, ap, ◌∙◌}
use mathlib.Core.List.{List, [], ◌++◌}
use Prim.Native.Nat.{ℕ, ◌+◌}
use native.Mathlib.Omega.{arith}
use lib.ListN.{length}
use Rattle.forest.specs.Forest.{Forest, nil}
use Rattle.lent.specs.Lists.{list_bytes, fill, Written}
use Rattle.lent.proofs.Writes.{length-list-append, fill-append, written_none}

module _ {E : Type 0} (row : E → List ℕ) where
  -- ---- the `rest` of a walk that writes entries: what out and the next place will be once ans f is written from byte `at` on
  unfoldable pub writing : (Forest → List E) → List ℕ → ℕ → Forest → List ℕ × ℕ
  writing ans out at f = (fill row out at (ans f), at + length (list_bytes row (ans f)))

  pub writing-turn : (ans ans' : Forest → List E) (g f : Forest) {xs : List E} {out out' : List ℕ} {at at' : ℕ} → ans g ≡ xs ++ ans' f
      → Written row xs out at out' at' → writing ans out at g ≡ writing ans' out' at' f
  unfolding writing
  writing-turn ans ans' g f {xs} {out} {out'} {at} {at'} e w =
      let l : at + length (list_bytes row (xs ++ ans' f)) ≡ at' + length (list_bytes row (ans' f)) = omega (arith, length-list-append row xs (ans' f), w.next) in
      rw (e, l, w.bytes, fill-append row out at xs (ans' f), w.next)

  pub writing-last : (ans ans' : Forest → List E) (g : Forest) {out out' out'' : List ℕ} {at at' at'' : ℕ} → Written row (ans' nil) out' at' out'' at''
      → writing ans' out' at' nil ≡ writing ans out at g → Written row (ans g) out at out'' at''
  unfolding writing
  writing-last ans ans' g w e =
      record { bytes = w.bytes ∙ ap (λ (x : List ℕ × ℕ). x.0) e; next = w.next ∙ ap (λ (x : List ℕ × ℕ). x.1) e }

  pub writing-end : (ans : Forest → List E) (g : Forest) {out out' : List ℕ} {at at' : ℕ} → ans nil ≡ []
      → writing ans out' at' nil ≡ writing ans out at g → Written row (ans g) out at out' at'
  writing-end ans g {out} {out'} {at} {at'} z e = writing-last ans ans g (rw z (written_none row out' at')) e
