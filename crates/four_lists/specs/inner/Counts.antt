-- How many entries each list of a root has, as the code counts them. A reader of the promise needs none of it.
-- src is the source's bytes, t the table's, n the root's record number.
-- Definitions only.
use Rattle.lent.specs.declared.refusal.Refusal.{Refusal}
use Rattle.std.specs.Prelude.{ℕ, List, length, Ok, Err, Result}
use Rattle.lists.specs.Scope.{table_aliases, column_aliases, table_refs}
use Rattle.enclosing.specs.Offered.{offered_in}
use Rattle.rooms.specs.declared.rooms.Counts.{Counts}

-- how many entries a list has by its reply: those that were written, or those that had no room
unfoldable pub entries_in : Result ℕ Refusal → ℕ
entries_in (Ok n) = n
entries_in (Err r) = r.detail

-- those of each list
abbrev pub counts_in : List ℕ → List ℕ → ℕ → Counts
counts_in src t n =
    record {
      names = length (offered_in src t n);
      aliases = length (table_aliases src t n);
      columns = length (column_aliases src t n);
      refs = length (table_refs src t n);
    }
