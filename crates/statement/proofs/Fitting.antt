-- The enclosing statement is a record of the table.
--     statement-within
-- Assumes nothing.
use Prim.Native.Nat.{ℕ, ◌<◌}
use mathlib.Core.Path.{◌≡◌, refl, sym, ap, ◌∙◌}
use mathlib.Core.List.Memᴰ
use mathlib.Core.List.{List}
use native.Mathlib.Omega.{arith}
use native.Mathlib.Nat.{zero-add}
use Rattle.std.specs.Prelude.{Ok, Some}
use Rattle.records.specs.declared.record.Rec.{Rec}
use Rattle.records.specs.Table.{record_at}
use Rattle.conditions.specs.Conditions.{most_records}
use Rattle.table.specs.Rules.{verdict}
use Rattle.forest.proofs.Sense.{admitted-tidy}
use Rattle.forest.proofs.Places.{stands}
use Rattle.statement.specs.Statement.{enclosing_at}
use Rattle.statement.proofs.Statements.{given-first}

pub statement-within : (t : List ℕ) (n m o : ℕ) → Ok tt ≡ verdict t n m → {i : ℕ} → enclosing_at t o ≡ Some i → i < most_records
unfolding record_at
statement-within t n m o a {i} e =
    let y = admitted-tidy t n m (sym a) in
    let f = given-first t o i e in
    let p = stands t y.some f.it (rw f.whole (Memᴰ.append_right f.before (Memᴰ.head refl))) in
    let q : f.it.self.index ≡ p.at = ap (λ (r : Rec). r.index) p.self ∙ zero-add p.at in
    omega (arith, p.within, y.few, f.number, q)
