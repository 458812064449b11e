use Rattle.in_order.proofs.Fast.{order-start, order-end}
use mathlib.Core.Path.{sym, ◌∙◌}
use native.Mathlib.Omega.{arith}
use Rattle.in_order.proofs.in_order.last_end_in_order.Goals as goal

pub loop-i-init : goal.loop-i-init
loop-i-init c = (omega arith, order-start _ (sym c.first_fits.ensures ∙ c.if-not-first_fits.false))

pub returns-in_ok-e-3 : goal.returns-in_ok-e-3
returns-in_ok-e-3 c n h = order-end _ c.in_ok-e-3.ensures (omega arith) (omega arith) h

pub returns-else-i-m : goal.returns-else-i-m
returns-else-i-m c n h = order-end _ c.loop-i.invariant.1 (omega arith) (omega arith) h
