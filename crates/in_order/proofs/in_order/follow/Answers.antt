use Rattle.in_order.proofs.Fast.{order-at, order-node, order-deepest, order-token}
use mathlib.Core.Path.{sym, ◌∙◌}
use mathlib.Core.Logic.{inl, inr}
use native.Mathlib.Omega.{arith}
use Rattle.in_order.proofs.in_order.follow.Goals as goal
use Rattle.in_order.proofs.in_order.follow.Goals.{then-depth-e+else-e-depth+else-depth-eq0, else-depth-e}

pub offset_bounds-nodes-depth : goal.offset_bounds-nodes-depth
offset_bounds-nodes-depth c = omega (arith, c.requires.1.shallow, c.if-e-depth.false)

pub bounds-nodes-depth : goal.bounds-nodes-depth
bounds-nodes-depth c = omega (arith, c.requires.1.shallow, c.requires.1.wide, c.if-e-depth.false)

pub returns-then-is_token : goal.returns-then-is_token
returns-then-is_token c =
    let w = order-at _ c.requires.1 c.depth_at-depth.ensures.0 (elim c.if-depth-e.branch [ then-depth-e+else-e-depth+else-depth-eq0 w ↦ inl (w.if-e-depth.false, w.if-depth-eq0.false, w.parent-is) | else-depth-e w ↦ inr (w.if-depth-e.false, w.parent-is) ]) in (order-token _ w.0 (omega (arith, c.requires)) w.1 (omega (arith, c.parent_at.ensures.0, c.if-parent_at-parent.false)) (rw c.kind_at-kind.ensures.0 at (sym c.is_token.ensures ∙ c.if-is_token.true)) (rw (c.start_at.ensures.0, c.end_at-end.ensures.0) at (sym c.span_fits.ensures ∙ c.if-not-span_fits.false)) c.end_at-end.ensures.0)

pub returns-then-depth-ge-MOST_DEPTH : goal.returns-then-depth-ge-MOST_DEPTH
returns-then-depth-ge-MOST_DEPTH c =
    let w = order-at _ c.requires.1 c.depth_at-depth.ensures.0 (elim c.if-depth-e.branch [ then-depth-e+else-e-depth+else-depth-eq0 w ↦ inl (w.if-e-depth.false, w.if-depth-eq0.false, w.parent-is) | else-depth-e w ↦ inr (w.if-depth-e.false, w.parent-is) ]) in (order-deepest _ w.0 (omega (arith, c.requires)) w.1 (omega (arith, c.parent_at.ensures.0, c.if-parent_at-parent.false)) (omega (arith, c.kind_at-kind.ensures.0, c.if-kind-gt-LAST_NODE.false)) (omega (arith, c.if-depth-ge-MOST_DEPTH.true)))

pub bounds-nodes-depth-2 : goal.bounds-nodes-depth-2
bounds-nodes-depth-2 c = omega (arith, c.requires.1.wide, c.if-depth-ge-MOST_DEPTH.false)

pub returns : goal.returns
returns c =
    let w = order-at _ c.requires.1 c.depth_at-depth.ensures.0 (elim c.if-depth-e.branch [ then-depth-e+else-e-depth+else-depth-eq0 w ↦ inl (w.if-e-depth.false, w.if-depth-eq0.false, w.parent-is) | else-depth-e w ↦ inr (w.if-depth-e.false, w.parent-is) ]) in (order-node _ w.0 (omega (arith, c.requires)) w.1 (omega (arith, c.parent_at.ensures.0, c.if-parent_at-parent.false)) (omega (arith, c.kind_at-kind.ensures.0, c.if-kind-gt-LAST_NODE.false)) (omega (arith, c.if-depth-ge-MOST_DEPTH.false)))
