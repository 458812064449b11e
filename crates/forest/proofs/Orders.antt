-- Tokens start in order:
--     tidy-ordered, admitted-ordered    those of an admitted table, by refusal 6
--     ordered-rest                      and so those of the rest of a table from a record on
-- Assumes nothing.
use Prim.Native.Nat.{ℕ, ◌+◌, ◌*◌, ◌<◌}
use mathlib.Core.Path.{◌≡◌, sym, ap, ◌∙◌}
use mathlib.Core.List.{List}
use mathlib.Core.Logic.{⊎_elim}
use native.Mathlib.Omega.{arith}
use lib.ListN.{drop}
use Rattle.std.specs.Prelude.{Ok}
use Rattle.lent.specs.Verdicts.{Verdict}
use Rattle.records.specs.declared.record.Rec.{Rec}
use Rattle.records.specs.Kinds.{last_node}
use Rattle.records.specs.Table.{record_bytes, count, kind_at, start_at, record_at}
use Rattle.table.specs.Rules.{verdict}
use Rattle.table.specs.Exactly.{Token}
use Rattle.forest.specs.Sense.{Tidy}
use Rattle.forest.specs.inner.Ordered.{Ordered}
use Rattle.forest.proofs.Laws.{record-tail, count-tail}
use Rattle.forest.proofs.Sense.{admitted-tidy}

pub tidy-ordered : {t : List ℕ} {n : ℕ} → Tidy t n → Ordered t
tidy-ordered {t} y =
    record { starts = λ i j p q a b. omega (arith, y.order i j p q (token i (omega arith) a) (token j q b), (y.spans i (omega arith) (token i (omega arith) a)).0) }
  where
    token : (x : ℕ) → x < count t → last_node < kind_at t x → Token (kind_at t x)
    token x h k = ⊎_elim (λ a. absurd (omega arith)) (λ a. a) (y.kinds x h)

pub admitted-ordered : (t : List ℕ) (n : ℕ) {v : Verdict} → v ≡ verdict t n 0 → v ≡ Ok tt → Ordered t
admitted-ordered t n e q = tidy-ordered (admitted-tidy t n 0 (sym e ∙ q))

pub ordered-rest : {t p : List ℕ} (i : ℕ) → Ordered t → p ≡ drop (record_bytes * i) t → Ordered p
unfolding record_at
ordered-rest {t} i w e =
    rw e
    (record {
      starts = λ a b p q k l. rw (start a, start b) (w.starts (i + a) (i + b) (omega arith) (omega (arith, count-tail t 0 i)) (rw (← kind a) k) (rw (← kind b) l));
    })
  where
    kind : (x : ℕ) → kind_at (drop (record_bytes * i) t) x ≡ kind_at t (i + x)
    kind x = ap (λ (r : Rec). r.kind) (record-tail t 0 i x)

    start : (x : ℕ) → start_at (drop (record_bytes * i) t) x ≡ start_at t (i + x)
    start x = ap (λ (r : Rec). r.start) (record-tail t 0 i x)
