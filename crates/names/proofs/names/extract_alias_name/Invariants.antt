use Rattle.names.proofs.NameLaws.{last_from}
use Rattle.names.specs.Names.{alias_in}
use Rattle.forest.proofs.Walks.{Walk}
use Prim.Native.Nat.{◌-◌, ◌≤◌}
use Rattle.forest.specs.Parts.{below}
use Rattle.names.proofs.names.extract_alias_name.Given as goal

abbrev pub invariant-loop-i : goal.invariant-loop-i
invariant-loop-i l = ((1 ≤ l.i) × (l.i ≤ l.m)) × Walk l.part.bytes.now l.part.base l.i (last_from l.source l.r l.last) (alias_in l.source l.r (below l.part))

abbrev pub decreases-loop-i : goal.decreases-loop-i
decreases-loop-i l = l.m - l.i
