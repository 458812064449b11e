-- Loops over a stretch whose answer names no record: it is that of the records however they are numbered.
-- Assumes nothing.
use Prim.Native.Nat.{ℕ, ◌+◌, ◌*◌, ◌≤◌, ◌<◌}
use mathlib.Core.Path.{◌≡◌, ap}
use mathlib.Core.Bool.{Bool, true, false, cond}
use mathlib.Core.List.{List}
use native.Mathlib.Nat.{zero-add}
use lib.ListN.{drop}
use Rattle.records.specs.Kinds.{last_node}
use Rattle.records.specs.Table.{record_bytes, count, kind_at, depth_at, record_at, records}
use Rattle.forest.specs.Forest.{Forest, nil, kids, Child, inside}
use Rattle.forest.specs.inner.Scan.{Reading}
use Rattle.forest.proofs.Laws.{records-tail}
use Rattle.forest.proofs.Walks.{Walk, walk_none, walk_start, walk_end}
use Rattle.forest.proofs.Scans.{Sweep, sweep-end, sweep-stop, sweep-over, sweep-token, sweep-into, sweep-past}

-- the children of record i, read in the rest of the table from it on
pub rest-inside : (t : List ℕ) (i : ℕ) → kids (records i (drop (record_bytes * i) t)) ≡ inside t i
rest-inside t i = ap kids (rw zero-add at (records-tail t 0 i))

-- however the records are numbered
pub record Walks {A : Type 0} (s : List ℕ) (i : ℕ) (rest : Forest → A) (answer : Forest → A) : Type 0 where
  pub at : (base : ℕ) → Walk s base i rest (answer (kids (records base s)))

module _ {A : Type 0} (s : List ℕ) (rest : Forest → A) where
  pub walks-none : count s ≡ 0 → (base : ℕ) → rest nil ≡ rest (kids (records base s))
  walks-none h base = walk_none s base rest h

  pub walks-start : {i : ℕ} → 0 < count s → Child s 1 i → Walks s i rest rest
  walks-start h c = record { at = λ base. walk_start s base rest h c }

module _ {A : Type 0} {s : List ℕ} {i : ℕ} {rest answer : Forest → A} (w : Walks s i rest answer) where
  pub walks-end : count s ≤ i → (base : ℕ) → rest nil ≡ answer (kids (records base s))
  walks-end h base = walk_end (w.at base) h

-- ---- a sweep

pub record Sweeps {S : Type 0} (R : Reading S) (t : List ℕ) (k m i : ℕ) (s : S) (answer : Forest → S) : Type 0 where
  pub at : (base : ℕ) → Sweep R t base k m i s (answer (kids (records base t)))

module _ {S : Type 0} {R : Reading S} {t : List ℕ} {k m i : ℕ} {s : S} {answer : Forest → S} (w : Sweeps R t k m i s answer) where
  pub sweeps-end : count t ≤ i → (base : ℕ) → s ≡ answer (kids (records base t))
  sweeps-end h base = sweep-end (w.at base) h

  pub sweeps-stop : i < count t → depth_at t i < k → (base : ℕ) → s ≡ answer (kids (records base t))
  sweeps-stop h d base = sweep-stop (w.at base) h d

  module _ (h : i < count t) (kd : k ≤ depth_at t i) where
    pub sweeps-over : m < depth_at t i → Sweeps R t k m (i + 1) s answer
    sweeps-over d = record { at = λ base. sweep-over (w.at base) h kd d }

    module _ (dm : depth_at t i ≤ m) where
      pub sweeps-token : {m' : ℕ} {s' : S} → last_node < kind_at t i → m' ≡ depth_at t i → ((base : ℕ) → s' ≡ R.at_token s (record_at t base i)) → Sweeps R t k m' (i + 1) s' answer
      sweeps-token g p q = record { at = λ base. sweep-token (w.at base) h kd dm g p (q base) }

      pub sweeps-node : {m' : ℕ} (b : Bool) → kind_at t i ≤ last_node → ((base : ℕ) → R.enters s (record_at t base i) ≡ b) → m' ≡ cond b (depth_at t i + 1) (depth_at t i)
          → ((base : ℕ) → s ≡ R.at_node s (record_at t base i)) → Sweeps R t k m' (i + 1) s answer
      sweeps-node true g e p q = record { at = λ base. sweep-into (w.at base) h kd dm g (e base) p (q base) }
      sweeps-node false g e p q = record { at = λ base. sweep-past (w.at base) h kd dm g (e base) p (q base) }
