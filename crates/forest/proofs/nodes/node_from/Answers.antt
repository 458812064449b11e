use Rattle.forest.proofs.NodeWalks.{seeking-start, seeking-none, seeking-here, seeking-deep, seeking-token, seeking-stop}
use mathlib.Core.Path.{◌≡◌}
use native.Mathlib.Omega.{arith}
use Rattle.forest.proofs.nodes.node_from.Goals as goal

pub loop-i-init : goal.loop-i-init
loop-i-init c = seeking-start _ _ (omega arith)

pub loop-i-preserved-then-k-d : goal.loop-i-preserved-then-k-d
loop-i-preserved-then-k-d c = seeking-deep c.loop-i.invariant (omega arith) (omega arith)

pub returns-then-d-k : goal.returns-then-d-k
returns-then-d-k c = let w = seeking-stop c.loop-i.invariant (omega arith) (omega arith) in rw c.count_of-m.ensures w

pub returns-then-kind_at-le-LAST_NODE : goal.returns-then-kind_at-le-LAST_NODE
returns-then-kind_at-le-LAST_NODE c = seeking-here c.loop-i.invariant (omega arith) (omega arith) (omega arith)

pub loop-i-preserved : goal.loop-i-preserved
loop-i-preserved c = seeking-token c.loop-i.invariant (omega arith) (omega arith) (omega arith)

pub returns : goal.returns
returns c = let e : c.loop-i.i ≡ c.count_of-m.result = omega arith in rw e at (seeking-none c.loop-i.invariant (omega arith))
