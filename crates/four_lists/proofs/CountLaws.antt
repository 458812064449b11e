-- How many entries there are, by the replies in a buffer of no bytes.
--     counted, counts-are
-- Assumes nothing.
use Prim.Native.Nat.{ℕ}
use mathlib.Core.Path.{◌≡◌, refl, ap, ◌∙◌}
use mathlib.Core.Bool.{Bool, true, false, cond}
use mathlib.Core.List.{List, []}
use lib.ListN.{length, length-map}
use lib.Dec.{ltb}
use Rattle.std.specs.Prelude.{Ok, Result}
use Rattle.lent.specs.declared.refusal.Condition.TheVariants.{NoRoom}
use Rattle.lent.specs.declared.refusal.Refusal.{Refusal}
use Rattle.lent.specs.Verdicts.{refused}
use Rattle.lent.specs.Lists.{list_bytes, reply, listed}
use Rattle.names.specs.Bindings.{binding_row}
use Rattle.references.specs.References.{reference_row}
use Rattle.clauses.specs.declared.clauses.ScopeList.TheVariants.{TableAliases, ColumnAliases, TableRefs}
use Rattle.lists.specs.Scope.{table_aliases, column_aliases, table_refs}
use Rattle.lists.specs.inner.Rows.{rows_at}
use Rattle.lists.proofs.ListLaws.{alias-rows, column-rows, reference-rows}
use Rattle.enclosing.specs.Offered.{offered_in}
use Rattle.four_lists.specs.inner.Counts.{entries_in, counts_in}

pub counted : {E : Type 0} (row : E → List ℕ) (es : List E) (out : List ℕ) {r : Result ℕ Refusal} {n : ℕ} → n ≡ entries_in r → r ≡ listed [] row es out → n ≡ length es
unfolding listed reply entries_in
counted row es out e q = e ∙ rw q (go (ltb (length out) (length (list_bytes row es))))
  where
    go : (b : Bool) → entries_in (reply (cond b (refused NoRoom (length es)) (Ok tt)) (length es)) ≡ length es
    go true = refl
    go false = refl

module _ (src t : List ℕ) (n : ℕ) where
  pub counts-are : {w a c r : ℕ} → w ≡ length (offered_in src t n) → a ≡ length (rows_at TableAliases src t n) → c ≡ length (rows_at ColumnAliases src t n)
      → r ≡ length (rows_at TableRefs src t n) → record { names = w; aliases = a; columns = c; refs = r } ≡ counts_in src t n
  counts-are w a c r =
      rw (
        w,
        a ∙ ap length (alias-rows src t n) ∙ length-map (table_aliases src t n) binding_row,
        c ∙ ap length (column-rows src t n) ∙ length-map (column_aliases src t n) binding_row,
        r ∙ ap length (reference-rows src t n) ∙ length-map (table_refs src t n) reference_row,
      )
