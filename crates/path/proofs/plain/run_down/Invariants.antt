use Rattle.path.specs.inner.Plain.{Plain, Run}
use Rattle.records.specs.Table.{kind_at, depth_at}
use Rattle.lent.specs.Numbers.{word_limit}
use mathlib.Core.Path.{◌≡◌}
use Prim.Native.Nat.{◌+◌, ◌≤◌}
use Rattle.path.proofs.plain.run_down.Given as goal

abbrev pub invariant-loop-i : goal.invariant-loop-i
invariant-loop-i l = ((l.k ≡ depth_at l.s l.i + 1) × (l.k ≤ word_limit) × Plain (kind_at l.s l.i)) × Run l.above l.s l.j l.offset l.i
