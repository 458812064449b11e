use native.Mathlib.Omega.{arith}
use mathlib.Core.Path.{sym}
use Rattle.brackets.specs.inner.BracketStack.{stack_of}
use Rattle.brackets.proofs.OneByOne.{stack-child, stack-last}
use Rattle.brackets.proofs.bracket_matching.stack_left.Goals as goal

pub loop-i-init : goal.loop-i-init
unfolding stack_of
loop-i-init c = (omega arith, sym c.requires.3.first)

pub loop-i-preserved : goal.loop-i-preserved
loop-i-preserved c =
    let s = c.stretch_of.ensures in
    (omega arith, stack-child _ _ _ s.2 s.3 s.0 c.count-i.ensures c.collect_brackets-top.ensures.0 c.loop-i.invariant.1)

pub shape_of-stack : goal.shape_of-stack
shape_of-stack c = c.loop-i.invariant.0.3

pub returns : goal.returns
returns c =
    (stack-last _ _ c.requires.3 (omega (arith, c.count_of-m.ensures)) c.loop-i.invariant.1, omega arith)
