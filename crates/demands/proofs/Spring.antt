-- The morning in the spring, from where it is proved: of every admitted table, whatever is asked.
-- Assumes nothing.
use Prim.Native.Nat.{ℕ, ◌<◌}
use mathlib.Core.Path.{◌≡◌, refl, ap, ◌∙◌}
use mathlib.Core.List.Memᴰ
use mathlib.Core.List.{List, map, map-append, Memᴰ}
use lib.ListN.{length}
use Rattle.std.specs.Prelude.{Ok}
use Rattle.records.specs.Table.{count}
use Rattle.table.specs.Rules.{verdict}
use Rattle.forest.proofs.Sense.{admitted-tidy}
use Rattle.names.specs.Bindings.{binding_row}
use Rattle.references.specs.References.{reference_row}
use Rattle.lists.specs.Scope.{with_names}
use Rattle.cursor_root.proofs.RootLaws.{root-within}
use Rattle.roots.specs.Nearest.{WithNamesFrom}
use Rattle.roots.proofs.Covers.{one-root}
use Rattle.roots.proofs.DeepestQuery.{deepest-query}
use Rattle.roots.proofs.Entries.{table-alias-of, column-alias-of, table-ref-of}
use Rattle.roots.proofs.SeenRoots.{with-names-from}
use Rattle.demands.specs.Questions.{Asked, rows, list, matter}
use Rattle.demands.specs.Spring.{SaysOnly, root_of_cursor, Spring}

-- of what is true of every entry, a list says only that
says-only : {E : Type 0} (row : E → List ℕ) (P : E → Type 0) (es : List E) → ((e : E) → Memᴰ e es → P e) → SaysOnly row P (list row es)
unfolding SaysOnly
says-only row P es f r m = let w = Memᴰ.of_map row es m in record { it = w.0; its-row = w.2; is-so = f w.0 w.1 }

pub spring : (a : Asked) → verdict a.table (length a.source) 0 ≡ Ok tt → Spring a
unfolding matter
spring a ok =
    let n : ℕ = root_of_cursor a in
    let h : n < count a.table = (root-within a.table (length a.source) a.offset refl ok refl).0 in
    let tidy = admitted-tidy a.table (length a.source) 0 ok in
    let w : WithNamesFrom a.source a.table n = with-names-from a.table a.source n (length a.source) tidy h in
    record {
      root = deepest-query a.table a.offset tidy.some;
      table-aliases = says-only binding_row _ _ (table-alias-of a.table a.source n h);
      column-aliases = says-only binding_row _ _ (column-alias-of a.table a.source n h);
      table-refs = says-only reference_row _ _ (table-ref-of a.table a.source n h);
      one-root = one-root a.table;
      with-names = says-only binding_row _ _ w.each;
      more = map binding_row w.more;
      own_first = ap (list binding_row) w.own_first ∙ ap rows (map-append binding_row (with_names a.source a.table n) w.more);
      own_alone = λ k. ap (list binding_row) (w.own_alone k);
    }
