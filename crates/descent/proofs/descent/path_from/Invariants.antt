use Rattle.path.proofs.Steps.{way}
use Rattle.path.specs.inner.Gathered.{Within, nothing, stepped}
use Rattle.forest.proofs.Descents.{answer, Level}
use Rattle.records.specs.Table.{count, kind_at, records}
use Prim.Native.Nat.{◌-◌, ◌+◌, ◌≤◌, ◌<◌}
use Rattle.descent.proofs.descent.path_from.Given as goal

abbrev pub invariant-loop-i : goal.invariant-loop-i
invariant-loop-i l = ((1 ≤ l.i) × (l.i ≤ l.m)) × Level (way l.offset) l.s l.base l.i l.g (answer (way l.offset) nothing (records 0 l.table))

abbrev pub decreases-loop-i : goal.decreases-loop-i
decreases-loop-i l = l.m - l.i

-- before s's first record is entered
abbrev pub invariant-descent : goal.invariant-descent
invariant-descent l = ((0 < count l.s) × (l.base + count l.s ≤ count l.table) × (count l.table < 4294967296) × (1 ≤ l.i) × (l.i ≤ count l.s)) × Within (count l.table) l.g × Level (way l.offset) l.s l.base l.i (stepped l.g (kind_at l.s 0) l.base) (answer (way l.offset) nothing (records 0 l.table))

abbrev pub decreases-descent : goal.decreases-descent
decreases-descent l = count l.s
