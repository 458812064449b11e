use mathlib.Core.Path.{refl, sym, ◌∙◌}
use mathlib.Core.Logic.{inl, inr}
use Prim.Native.Nat.{◌+◌, ◌≤◌}
use native.Mathlib.Omega.{arith}
use Rattle.statement.proofs.Passing.{pass-start, pass_on, pass-over, pass-past, pass-end}
use Rattle.statement.proofs.Statements.{root-holds, root-outside}
use Rattle.statement.proofs.statement.find_enclosing_statement.Goals as goal
use Rattle.statement.proofs.statement.find_enclosing_statement.Goals.{then-is_statement, else-is_statement, then-is_statement-2, else-is_statement-2}

pub returns-then-not-spans : goal.returns-then-not-spans
returns-then-not-spans c =
    root-outside _ _ (rw (← c.start_at-start.ensures.0, ← c.end_at-end.ensures.0) (sym c.spans.ensures ∙ c.if-not-spans.true))

pub loop-i-init : goal.loop-i-init
loop-i-init c =
    (omega (arith, c.level_from-i.ensures.on, c.level_from-i.ensures.within), pass-start _ _ (omega arith) (elim c.if-is_statement.branch [ then-is_statement w ↦ inl (rw c.kind_at.ensures.0 at (sym c.is_statement.ensures ∙ w.if-is_statement.true), w.best-is) | else-is_statement w ↦ inr (rw c.kind_at.ensures.0 at (sym c.is_statement.ensures ∙ w.if-is_statement.false), w.best-is) ]) (omega (arith, c.depth_at-floor.ensures.0)) c.level_from-i.ensures)

pub returns-then-d-floor : goal.returns-then-d-floor
returns-then-d-floor c =
    root-holds _ _ (rw (← c.start_at-start.ensures.0, ← c.end_at-end.ensures.0) (sym c.spans.ensures ∙ c.if-not-spans.false)) refl (pass-past c.loop-i.invariant.1 (omega arith) (omega (arith, c.depth_at-d.ensures.0, c.if-d-floor.true)))

pub loop-i-smaller-then-is_holder : goal.loop-i-smaller-then-is_holder
loop-i-smaller-then-is_holder c = omega (arith, c.level_from-i-then-is_holder.ensures.on)

pub loop-i-preserved-then-is_holder : goal.loop-i-preserved-then-is_holder
loop-i-preserved-then-is_holder c =
    (omega (arith, c.level_from-i-then-is_holder.ensures.on, c.level_from-i-then-is_holder.ensures.within), pass_on c.loop-i.invariant.1 (omega arith) c.depth_at-d.ensures.0 c.if-d-floor.false (sym c.is_holder.ensures ∙ c.if-is_holder.true) (elim c.if-is_statement-2.branch [ then-is_statement-2 w ↦ inl (rw c.kind_at-then-is_holder.ensures.0 at (sym c.is_statement-then-is_holder.ensures ∙ w.if-is_statement-2.true), w.best-is, w.floor-is) | else-is_statement-2 w ↦ inr (rw c.kind_at-then-is_holder.ensures.0 at (sym c.is_statement-then-is_holder.ensures ∙ w.if-is_statement-2.false), w.best-is, w.floor-is) ]) c.level_from-i-then-is_holder.ensures)

pub loop-i-smaller : goal.loop-i-smaller
loop-i-smaller c = omega (arith, c.far_from-i.ensures.on)

pub loop-i-preserved : goal.loop-i-preserved
loop-i-preserved c =
    (omega (arith, c.far_from-i.ensures.on, c.far_from-i.ensures.within), pass-over c.loop-i.invariant.1 (omega arith) c.depth_at-d.ensures.0 c.if-d-floor.false (sym c.is_holder.ensures ∙ c.if-is_holder.false) c.far_from-i.ensures)

pub returns : goal.returns
returns c =
    root-holds _ _ (rw (← c.start_at-start.ensures.0, ← c.end_at-end.ensures.0) (sym c.spans.ensures ∙ c.if-not-spans.false)) refl (pass-end c.loop-i.invariant.1 (omega arith))
