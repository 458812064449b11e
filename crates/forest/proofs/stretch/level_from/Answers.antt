use Rattle.forest.proofs.Searches.{searching-start, searching-here, searching-on, searching-none}
use mathlib.Core.Path.{◌≡◌}
use native.Mathlib.Omega.{arith}
use Rattle.records.specs.Table.{count}
use Rattle.forest.proofs.stretch.level_from.Goals as goal

pub loop-i-init : goal.loop-i-init
loop-i-init c = searching-start _ _ _ (omega arith)

pub returns-then-depth_at-k : goal.returns-then-depth_at-k
returns-then-depth_at-k c = searching-here c.loop-i.invariant (omega arith)

pub loop-i-preserved : goal.loop-i-preserved
loop-i-preserved c = searching-on c.loop-i.invariant (omega arith) (omega arith)

pub returns : goal.returns
returns c = let e : c.loop-i.i ≡ count c.args.t.now = omega arith in rw e at (searching-none c.loop-i.invariant (omega arith))
