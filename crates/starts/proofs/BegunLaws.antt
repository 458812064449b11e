-- One walk over record 0's children for all cursors.
--     begun_first    every search may begin at the first child
--     begun-next     a cursor is where it was, or goes on after a child that does not hold its offset
-- Assumes nothing.
use Prim.Native.Nat.{ℕ, zero, suc, ◌+◌, ◌*◌, ◌/◌, ◌≤◌, ◌<◌}
use mathlib.Core.Path.{◌≡◌, refl, sym, ◌∙◌}
use mathlib.Core.Bool.{Bool, true, false, cond, not, ◌&&◌}
use mathlib.Core.Logic.{⊎_elim}
use mathlib.Core.List.{List}
use native.Mathlib.Omega.{arith}
use borrow.Author.Tests.{eqb-true}
use lib.Dec.{eqb}
use lib.ListN.{length, get_or, set, replicate, length-set}
use lib.Seq.{get_or-set_same, get_or-set_other}
use Rattle.records.specs.Table.{count, kind_at, start_at, end_at, record_at}
use Rattle.lent.specs.Numbers.{word}
use Rattle.records.specs.Kinds.{is_node}
use Rattle.records.specs.Ranges.{spans}
use Rattle.forest.specs.Forest.{Child}
use Rattle.conditions.specs.Conditions.{most_offsets, offset_bytes}
use Rattle.lent.proofs.Cases.{eq-or-not}
use Rattle.path.specs.inner.Starts.{Starts}
use Rattle.path.proofs.StartLaws.{starts_first, starts-on}
use Rattle.starts.specs.inner.Ready.{Begun}

same-all : (n c x : ℕ) → c < n → get_or (replicate n x) c 0 ≡ x
same-all zero c x h = absurd (omega arith)
same-all (suc n) zero x h = refl
same-all (suc n) (suc c) x h = same-all n c x (omega arith)

pub begun_first : (t os : List ℕ) {first : ℕ} → 0 < count t → length os / offset_bytes ≤ most_offsets → Child t 1 first → Begun t os (replicate most_offsets first)
begun_first t os {first} h n c =
    record { wide = refl; each = λ k g. rw (same-all most_offsets k first (omega arith)) (starts_first t (word os (offset_bytes * k)) h c) }

module _ {t os starts : List ℕ} (w : Begun t os starts) {i next c : ℕ} (h : i < count t) (d : Child t (i + 1) next) (n : c < length os / offset_bytes) where
  abbrev offset : ℕ
  offset = word os (offset_bytes * c)

  abbrev held : Bool
  held = is_node (kind_at t i) && spans offset (start_at t i) (end_at t i)

  goes : (b : Bool) {at : ℕ} → Starts t offset at → b ≡ (eqb at i && not held) → Starts t offset (cond b next at)
  unfolding record_at
  goes false s e = s
  goes true {at} s e = go (eqb at i) refl (sym e)
    where
      go : (x : Bool) → eqb at i ≡ x → (x && not held) ≡ true → Starts t offset next
      go true p q = let z : at ≡ i = eqb-true at i p in starts-on t offset (rw z at s) h (not-true held q) d
        where
          not-true : (y : Bool) → not y ≡ true → y ≡ false
          not-true true r = sym r
          not-true false r = refl
      go false p q = absurd (let z : ◌≡◌ {A = ℕ} 0 1 = cc in omega arith)

  pub begun-next : {b : Bool} {at o x : ℕ} {starts' : List ℕ} → length os / offset_bytes ≤ most_offsets → at ≡ get_or starts c 0 → o ≡ offset
      → b ≡ (eqb at i && not (is_node (kind_at t i) && spans o (start_at t i) (end_at t i))) → x ≡ cond b next at → starts' ≡ set starts c x → Begun t os starts'
  begun-next {b} {at} {o} {x} m a e g q u =
      record {
        wide = rw u (length-set starts c x ∙ w.wide);
        each = λ k p.
            rw u
            (⊎_elim
            (λ z.
            let y : Starts t offset x = rw q (goes b (rw a (w.each c n)) (rw e at g)) in
            rw (← z, get_or-set_same starts c x 0 (omega (arith, w.wide))) y)
            (λ z. rw (get_or-set_other starts c k x 0 (λ r. z (sym r))) (w.each k p))
            (eq-or-not c k));
      }
