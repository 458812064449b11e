use Rattle.references.proofs.PendingLaws.{shifted_in}
use Rattle.references.specs.References.{fresh}
use Rattle.names.specs.Names.{is_part, direct}
use Rattle.forest.proofs.Walks.{Walk}
use Rattle.forest.specs.Parts.{below}
use Prim.Native.Nat.{◌-◌, ◌≤◌, ◌<◌}
use Rattle.references.proofs.pending.extract_table_identifier.Given as goal

abbrev pub invariant-loop-i : goal.invariant-loop-i
invariant-loop-i l = ((1 ≤ l.i) × (l.i ≤ l.m) × (l.parts < l.i)) × Walk l.part.bytes.now l.part.base l.i (shifted_in l.source l.part.base l.parts l.database l.table) (fresh l.source l.part.base (direct is_part (below l.part)))

abbrev pub decreases-loop-i : goal.decreases-loop-i
decreases-loop-i l = l.m - l.i
