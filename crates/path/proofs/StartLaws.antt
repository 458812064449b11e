-- Where the search among record 0's children may begin.
--     starts_first    at its first child
--     starts-on       after a child that does not hold the offset
--     starts-level    the descent's first walk, begun there
-- Assumes nothing.
use Prim.Native.Nat.{ℕ, ◌+◌, ◌≤◌, ◌<◌}
use mathlib.Core.Path.{◌≡◌, refl, ap, ◌∙◌}
use mathlib.Core.Bool.{false, ◌&&◌}
use mathlib.Core.List.{List}
use native.Mathlib.Omega.{arith}
use borrow.Author.Tests.{le-leb}
use Rattle.records.specs.declared.record.Rec.{Rec}
use Rattle.records.specs.Kinds.{is_node, last_node}
use Rattle.records.specs.Table.{count, kind_at, record_at, records}
use Rattle.forest.specs.Forest.{Forest, node, kids, Child}
use Rattle.forest.specs.Descent.{path, along}
use Rattle.records.specs.Ranges.{holds}
use Rattle.forest.proofs.Walks.{Walk, walk_start, walk-next}
use Rattle.forest.proofs.Descents.{onward, Down, Level}
use Rattle.path.specs.declared.gathered.Gathered.{Gathered}
use Rattle.path.specs.Path.{Deepest}
use Rattle.path.specs.inner.Gathered.{settled, stepped}
use Rattle.path.specs.inner.Starts.{Starts}
use Rattle.path.proofs.Steps.{way}

module _ (t : List ℕ) (o : ℕ) where
  abbrev whole : List Rec
  whole = path (holds o) (kids (records 0 t))

  begun : {r : ℕ} → Walk t 0 r (path (holds o)) whole → 1 ≤ r → r ≤ count t → Starts t o r
  begun w p q = record { from = p; to = q; child = w.child; same = w.left }

  pub starts_first : {i : ℕ} → 0 < count t → Child t 1 i → Starts t o i
  starts_first h c = begun (walk_start t 0 (path (holds o)) h c) c.on c.within

  module _ {i : ℕ} (w : Starts t o i) where
    walk : Walk t 0 i (path (holds o)) whole
    walk = record { child = w.child; left = w.same }

    passed : (r : Rec) (b f : Forest) → holds o r ≡ false → path (holds o) (node r b f) ≡ path (holds o) f
    unfolding path
    passed r b f e = rw e

    pub starts-on : {r : ℕ} → i < count t → (is_node (kind_at t i) && holds o (record_at t 0 i)) ≡ false → Child t (i + 1) r → Starts t o r
    unfolding path
    starts-on h e c =
        begun
        (walk-next walk h c (λ g f. refl) (λ g b f. passed (record_at t 0 i) b f (rw (le-leb (kind_at t i) last_node g) at e)))
        (omega (arith, c.on)) c.within

    pub starts-level : {g : Gathered} {«all» : Gathered} → Down (way o) t 0 g «all» → Level (way o) t 0 i g «all»
    unfolding onward
    starts-level {g} d =
        record {
          walk = record {
            child = w.child;
            left = ap (λ (p : List Rec). settled (along (λ x r. stepped x r.kind r.index) g p) Deepest) w.same ∙ d.left;
          };
        }
