use Rattle.clauses.proofs.ClauseLaws.{Unmet, unmet-start, unmet-found, unmet-on}
use mathlib.Core.Path.{◌∙◌}
use Prim.Native.Nat.{◌+◌}
use native.Mathlib.Omega.{arith}
use Rattle.clauses.proofs.clauses.has_kind.Goals as goal

pub loop-i-init : goal.loop-i-init
loop-i-init c = (omega arith, unmet-start _ _ _ _)

pub returns-then-is_within : goal.returns-then-is_within
returns-then-is_within c =
    let u0 = c.loop-i.invariant.1 in unmet-found u0 (omega arith) c.kind_at.ensures.0 c.is_within.ensures c.if-is_within.true

pub returns-then-is_within-2 : goal.returns-then-is_within-2
returns-then-is_within-2 c =
    let u0 = c.loop-i.invariant.1 in let u1 : Unmet _ _ _ (c.loop-i.i + 1) _ = unmet-on u0 (omega arith) c.kind_at.ensures.0 c.is_within.ensures c.if-is_within.false (omega arith) in unmet-found u1 (omega arith) c.kind_at-in-loop-i.ensures.0 c.is_within-in-loop-i.ensures c.if-is_within-2.true

pub returns-then-is_within-3 : goal.returns-then-is_within-3
returns-then-is_within-3 c =
    let u0 = c.loop-i.invariant.1 in let u1 : Unmet _ _ _ (c.loop-i.i + 1) _ = unmet-on u0 (omega arith) c.kind_at.ensures.0 c.is_within.ensures c.if-is_within.false (omega arith) in let u2 : Unmet _ _ _ (c.loop-i.i + 2) _ = unmet-on u1 (omega arith) c.kind_at-in-loop-i.ensures.0 c.is_within-in-loop-i.ensures c.if-is_within-2.false (omega arith) in unmet-found u2 (omega arith) c.kind_at-in-loop-i-2.ensures.0 c.is_within-in-loop-i-2.ensures c.if-is_within-3.true

pub returns-then-is_within-4 : goal.returns-then-is_within-4
returns-then-is_within-4 c =
    let u0 = c.loop-i.invariant.1 in let u1 : Unmet _ _ _ (c.loop-i.i + 1) _ = unmet-on u0 (omega arith) c.kind_at.ensures.0 c.is_within.ensures c.if-is_within.false (omega arith) in let u2 : Unmet _ _ _ (c.loop-i.i + 2) _ = unmet-on u1 (omega arith) c.kind_at-in-loop-i.ensures.0 c.is_within-in-loop-i.ensures c.if-is_within-2.false (omega arith) in let u3 : Unmet _ _ _ (c.loop-i.i + 3) _ = unmet-on u2 (omega arith) c.kind_at-in-loop-i-2.ensures.0 c.is_within-in-loop-i-2.ensures c.if-is_within-3.false (omega arith) in unmet-found u3 (omega arith) c.kind_at-in-loop-i-3.ensures.0 c.is_within-in-loop-i-3.ensures c.if-is_within-4.true

pub loop-i-preserved : goal.loop-i-preserved
loop-i-preserved c =
    let u0 = c.loop-i.invariant.1 in let u1 : Unmet _ _ _ (c.loop-i.i + 1) _ = unmet-on u0 (omega arith) c.kind_at.ensures.0 c.is_within.ensures c.if-is_within.false (omega arith) in let u2 : Unmet _ _ _ (c.loop-i.i + 2) _ = unmet-on u1 (omega arith) c.kind_at-in-loop-i.ensures.0 c.is_within-in-loop-i.ensures c.if-is_within-2.false (omega arith) in let u3 : Unmet _ _ _ (c.loop-i.i + 3) _ = unmet-on u2 (omega arith) c.kind_at-in-loop-i-2.ensures.0 c.is_within-in-loop-i-2.ensures c.if-is_within-3.false (omega arith) in let u4 : Unmet _ _ _ (c.loop-i.i + 4) _ = unmet-on u3 (omega arith) c.kind_at-in-loop-i-3.ensures.0 c.is_within-in-loop-i-3.ensures c.if-is_within-4.false (omega arith) in (omega arith, u4)

pub returns : goal.returns
returns c = c.has_kind_from.ensures ∙ c.loop-i.invariant.1.left
