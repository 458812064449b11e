use Rattle.std.specs.Prelude.{IfSome, None}
use Rattle.tables.specs.inner.Rows.{as_row, rows_of, read_bytes}
use Rattle.tables.specs.inner.Waiting.{pending_at}
use Rattle.tables.specs.Tables.{table_reading}
use Rattle.forest.proofs.Writing.{writing}
use Rattle.forest.proofs.NodeWalks.{NodeWalk}
use Rattle.forest.specs.Parts.{below}
use lib.ListN.{length}
use mathlib.Core.Path.{◌≡◌}
use Prim.Native.Nat.{◌+◌, ◌-◌, ◌*◌, ◌≤◌, ◌<◌}
use Rattle.tables.proofs.tables.+collect_table_refs.Given as goal

abbrev pub decreases-collect_table_refs : goal.decreases-collect_table_refs
decreases-collect_table_refs l = length l.part.now.bytes.now

abbrev pub invariant-loop-i : goal.invariant-loop-i
invariant-loop-i l =
    ((1 ≤ l.i) × (l.i ≤ l.m) × (l.next + read_bytes ≤ l.at + read_bytes * l.i) × (length l.out ≡ length l.initial.out))
    × (IfSome l.name (λ n. n < l.m) × IfSome l.alias (λ a. a < l.m))
    × NodeWalk l.part.bytes.now l.part.base l.i (writing as_row (table_reading (rows_of l.reads) l.source (pending_at l.source l.part.base l.part.bytes.now l.name l.alias)) l.out l.next) (writing as_row (table_reading (rows_of l.reads) l.source None) l.initial.out l.at (below l.part))

abbrev pub decreases-loop-i : goal.decreases-loop-i
decreases-loop-i l = l.m - l.i
