use mathlib.Core.Path.{refl, sym, ◌∙◌}
use Rattle.std.specs.Prelude.{Some}
use Rattle.refusals.proofs.Checks.{checking-start, checking-misfit, fit-depth, checking-parent, checking-span, checking-next, checking-end}
use native.Mathlib.Omega.{arith}
use Rattle.refusals.proofs.by_record.check_records.Goals as goal

pub loop-i-init : goal.loop-i-init
loop-i-init c = (omega arith, checking-start _ _)

pub returns-in-Some : goal.returns-in-Some
returns-in-Some c =
    c.refused.ensures ∙ checking-misfit c.loop-i.invariant.1 (omega arith) c.record_at-r.ensures (sym c.in-Some.is ∙ c.misfit.ensures)

pub offset_bounds-above-d : goal.offset_bounds-above-d
offset_bounds-above-d c =
    omega (arith, fit-depth c.loop-i.invariant.1 (omega arith) c.record_at-r.ensures c.misfit.ensures c.in_default.is)

pub bounds-above-d : goal.bounds-above-d
bounds-above-d c =
    omega (arith, fit-depth c.loop-i.invariant.1 (omega arith) c.record_at-r.ensures c.misfit.ensures c.in_default.is, c.loop-i.invariant.1.parents.wide)

pub returns-then-strays : goal.returns-then-strays
returns-then-strays c =
    c.refused-then-strays.ensures ∙ checking-parent c.loop-i.invariant.1 (omega arith) c.record_at-r.ensures c.misfit.ensures c.in_default.is (sym c.strays.ensures ∙ c.if-strays.true)

pub returns-then-off_source : goal.returns-then-off_source
returns-then-off_source c =
    c.refused-then-off_source.ensures ∙ checking-span c.loop-i.invariant.1 (omega arith) c.record_at-r.ensures c.misfit.ensures c.in_default.is (sym c.strays.ensures ∙ c.if-strays.false) (sym c.off_source.ensures ∙ c.if-off_source.true)

pub overflow_add-above : goal.overflow_add-above
overflow_add-above c =
    omega (arith, fit-depth c.loop-i.invariant.1 (omega arith) c.record_at-r.ensures c.misfit.ensures c.in_default.is)

pub offset_bounds-above-d-in-loop-i : goal.offset_bounds-above-d-in-loop-i
offset_bounds-above-d-in-loop-i c =
    omega (arith, fit-depth c.loop-i.invariant.1 (omega arith) c.record_at-r.ensures c.misfit.ensures c.in_default.is)

pub bounds-above-d-in-loop-i : goal.bounds-above-d-in-loop-i
bounds-above-d-in-loop-i c =
    omega (arith, fit-depth c.loop-i.invariant.1 (omega arith) c.record_at-r.ensures c.misfit.ensures c.in_default.is, c.loop-i.invariant.1.parents.wide)

pub after-b-requires : goal.after-b-requires
after-b-requires c =
    omega (arith, fit-depth c.loop-i.invariant.1 (omega arith) c.record_at-r.ensures c.misfit.ensures c.in_default.is)

pub loop-i-preserved : goal.loop-i-preserved
loop-i-preserved c =
    (omega arith, checking-next c.loop-i.invariant.1 (omega arith) c.record_at-r.ensures c.misfit.ensures c.in_default.is (sym c.strays.ensures ∙ c.if-strays.false) (sym c.off_source.ensures ∙ c.if-off_source.false) refl c.after-b.ensures)

pub returns : goal.returns
returns c = checking-end c.loop-i.invariant.1 (omega arith)
