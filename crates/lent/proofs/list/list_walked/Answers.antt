use mathlib.Core.Path.{◌≡◌, refl}
use mathlib.Core.List.{[]}
use native.Mathlib.Omega.{arith}
use Rattle.lent.specs.Lists.{plain}
use Rattle.lent.proofs.Writes.{sized-copied, sized-filled, sized-short}
use Rattle.lent.proofs.list.list_walked.Goals as goal

pub returns-then-out-size : goal.returns-then-out-size
returns-then-out-size g c es w wide =
    let v = w _ _ _ c.walk-size.ensures in
    rw c.refused.ensures (sized-short plain c.args.width es wide c.requires.wide [] _ refl (omega (arith, v.next)) (omega arith))

pub returns-then-size-le-KEPT_BYTES : goal.returns-then-size-le-KEPT_BYTES
returns-then-size-le-KEPT_BYTES g c es w wide =
    sized-copied plain c.args.width es wide c.requires.wide [] _ refl (w _ _ _ c.walk-size.ensures) (omega arith) (omega arith) c.copy_front.ensures

pub returns : goal.returns
returns g c es w wide =
    let v = w _ _ _ c.walk-size.ensures in
    let u = w _ _ _ c.walk.ensures in
    let same : c.walk.result ≡ c.walk-size.result = omega (arith, v.next, u.next) in
    rw (← same) (sized-filled plain c.args.width es wide c.requires.wide [] _ refl u (omega arith))
