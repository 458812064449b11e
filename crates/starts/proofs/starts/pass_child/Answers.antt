use Rattle.starts.proofs.BegunLaws.{begun-next}
use mathlib.Core.Path.{refl}
use native.Mathlib.Omega.{arith}
use Rattle.starts.proofs.starts.pass_child.Goals as goal
use Rattle.starts.proofs.starts.pass_child.Goals.{then-on, else-on}

pub loop-c-preserved : goal.loop-c-preserved
loop-c-preserved c =
    begun-next c.loop-c.invariant (omega arith) c.requires.1 (omega arith) (omega arith) refl c.word_at.ensures.0 c.goes_on-on.ensures
    (elim c.if-on.branch [ then-on w ↦ rw w.if-on.true w.starts-is | else-on w ↦ rw w.if-on.false w.starts-is ]) refl

pub returns : goal.returns
returns c = c.loop-c.invariant
