use Prim.Native.Nat.{◌≤◌}
use Rattle.records.specs.Table.{count}
use Rattle.conditions.specs.Conditions.{most_records}
use Rattle.refusals.specs.ByRecord.{rules_from}
use Rattle.lent.specs.Verdicts.{first}
use Rattle.refusals.proofs.Checks.{Checking}
use Rattle.refusals.proofs.by_record.check_records.Given as goal

abbrev pub invariant-loop-i : goal.invariant-loop-i
invariant-loop-i l = (count l.table ≤ most_records) × Checking l.table l.n l.i l.b l.above (first (rules_from l.table l.n 0 (count l.table)))
