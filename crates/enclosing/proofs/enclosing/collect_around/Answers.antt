use Rattle.enclosing.proofs.ClimbLaws.{outer_nothing, outer-below, outer-within, climb-start, climb-query, climb-other, climb-none, climb-last}
use Rattle.records.specs.Table.{count}
use mathlib.Core.Path.{sym, ◌∙◌}
use native.Mathlib.Omega.{arith}
use Rattle.enclosing.proofs.enclosing.collect_around.Goals as goal

pub loop-i-init : goal.loop-i-init
loop-i-init c = (omega arith, outer_nothing _, climb-start _ _ _ _ _)

pub kind_at-kind-requires : goal.kind_at-kind-requires
kind_at-kind-requires c = omega (arith, c.parent_at-i.ensures.0, c.requires.1.up c.loop-i.i (omega arith) (omega arith))

pub collect_seen-next-requires : goal.collect_seen-next-requires
collect_seen-next-requires c =
    omega (arith, c.parent_at-i.ensures.0, c.requires.1.up c.loop-i.i (omega arith) (omega arith), rw (← c.parent_at-i.ensures.0) at (c.requires.1.depth c.loop-i.i (omega arith) (omega arith)))

pub loop-i-smaller-then-kind-eq-SUBQUERY_EXPRESSION : goal.loop-i-smaller-then-kind-eq-SUBQUERY_EXPRESSION
loop-i-smaller-then-kind-eq-SUBQUERY_EXPRESSION c = omega (arith, c.parent_at-i.ensures.0, c.requires.1.up c.loop-i.i (omega arith) (omega arith))

pub loop-i-preserved-then-kind-eq-SUBQUERY_EXPRESSION : goal.loop-i-preserved-then-kind-eq-SUBQUERY_EXPRESSION
loop-i-preserved-then-kind-eq-SUBQUERY_EXPRESSION c =
    (omega (arith, c.parent_at-i.ensures.0, c.requires.1.up c.loop-i.i (omega arith) (omega arith), rw (← c.parent_at-i.ensures.0) at (c.requires.1.depth c.loop-i.i (omega arith) (omega arith))), outer_nothing _, climb-query _ _ _ c.loop-i.invariant.2 c.requires.1 (omega arith) (omega arith) c.parent_at-i.ensures.0 (omega arith) c.collect_seen-next.ensures.0)

pub loop-i-smaller : goal.loop-i-smaller
loop-i-smaller c = omega (arith, c.parent_at-i.ensures.0, c.requires.1.up c.loop-i.i (omega arith) (omega arith))

pub loop-i-preserved : goal.loop-i-preserved
loop-i-preserved c =
    (omega (arith, c.parent_at-i.ensures.0, c.requires.1.up c.loop-i.i (omega arith) (omega arith), rw (← c.parent_at-i.ensures.0) at (c.requires.1.depth c.loop-i.i (omega arith) (omega arith))), rw c.after-outer.ensures (outer-below c.loop-i.outer _ _ _ c.loop-i.invariant.1 (omega (arith, c.parent_at-i.ensures.0, c.requires.1.up c.loop-i.i (omega arith) (omega arith)))), climb-other _ _ _ c.loop-i.invariant.2 c.requires.1 (omega arith) (omega arith) c.parent_at-i.ensures.0 (λ q. omega arith) (rw c.kind_at-kind.ensures.0 at c.after-outer.ensures))

pub collect_seen-requires : goal.collect_seen-requires
collect_seen-requires c =
    omega (arith, outer-within _ (count c.args.table.now) c.loop-i.invariant.1 (omega arith) (sym c.in-Some.is ∙ c.root.ensures))

pub returns-in-Some : goal.returns-in-Some
returns-in-Some c =
    (climb-last _ _ _ c.loop-i.invariant.2 (omega arith) (sym c.in-Some.is ∙ c.root.ensures) c.collect_seen.ensures.0, omega arith)

pub returns-in-None : goal.returns-in-None
returns-in-None c = (climb-none _ _ _ c.loop-i.invariant.2 (omega arith) (sym c.in-None.is ∙ c.root.ensures), omega arith)
