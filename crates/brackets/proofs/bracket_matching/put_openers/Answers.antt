use Rattle.brackets.proofs.BracketLaws.{opener-none, opener-put}
use mathlib.Core.Path.{refl}
use native.Mathlib.Omega.{arith}
use Rattle.brackets.proofs.bracket_matching.put_openers.Goals as goal

pub loop-top-init : goal.loop-top-init
loop-top-init c = (refl, opener-none c.openers-top-items.result.now _)

pub loop-top-preserved : goal.loop-top-preserved
loop-top-preserved c =
    (omega (arith, c.put_entry-at.ensures.1), opener-put c.openers-top-items.result.now c.loop-top.top-index c.loop-top.invariant.1 (omega arith) c.from.ensures c.put_entry-at.ensures.0 c.put_entry-at.ensures.1)
