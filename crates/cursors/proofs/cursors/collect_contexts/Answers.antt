use Rattle.cursors.proofs.CursorsLaws.{taking-start, taking_step, taking-end}
use Rattle.starts.proofs.BegunLaws.{begun_first}
use Rattle.contexts.specs.Context.{coded}
use mathlib.Core.Path.{refl, ap, ◌∙◌}
use native.Mathlib.Omega.{arith}
use Rattle.cursors.proofs.cursors.collect_contexts.Goals as goal

pub begin_all-requires : goal.begin_all-requires
begin_all-requires c =
    (c.requires, c.child_from-first.ensures, begun_first _ _ (omega arith) (omega arith) c.child_from-first.ensures)

pub loop-i-init : goal.loop-i-init
loop-i-init c = (omega arith, c.begin_all.ensures, taking-start _ _ _ _)

pub context_from-requires : goal.context_from-requires
context_from-requires c =
    (omega arith, c.requires.1, rw c.word_at-offset.ensures.0 (c.loop-i.invariant.1.each _ (omega arith)))

pub slice_bounds-put_entry-end : goal.slice_bounds-put_entry-end
slice_bounds-put_entry-end c = refl

pub loop-i-preserved : goal.loop-i-preserved
loop-i-preserved c =
    (omega (arith, c.put_entry-next.ensures.1), c.loop-i.invariant.1, taking_step _ _ _ c.loop-i.invariant.2 (omega arith) c.word_at-offset.ensures.0 (c.code_of-k.ensures ∙ ap coded c.context_from.ensures) c.put_entry-next.ensures.0 c.put_entry-next.ensures.1)

pub returns : goal.returns
returns c = taking-end _ _ _ c.loop-i.invariant.2 (omega arith)
