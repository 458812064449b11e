use Rattle.references.proofs.PendingLaws.{one_or_two_in, parts-fresh, parts-part, parts-on, parts-over, parts-end, part-not}
use Rattle.forest.proofs.Walks.{walk_start, walk_end, walk-next}
use Rattle.records.specs.Table.{record_at}
use mathlib.Core.Path.{◌∙◌, sym}
use native.Mathlib.Omega.{arith}
use Rattle.references.proofs.pending.gives_reference.Goals as goal

pub loop-i-init : goal.loop-i-init
loop-i-init c = (omega arith, walk_start _ _ (one_or_two_in 0) (omega arith) c.child_from-i.ensures)

pub loop-i-preserved-then-is_part : goal.loop-i-preserved-then-is_part
loop-i-preserved-then-is_part c =
    (omega arith, walk-next c.loop-i.invariant.1 (omega arith) c.child_from-i-then-is_part.ensures (λ g f. parts-part _ _ f (rw c.record_at-t.ensures at (sym c.is_part.ensures ∙ c.if-is_part.true))) (λ g b f. absurd (part-not _ (sym c.is_part.ensures ∙ c.if-is_part.true) (rw c.record_at-t.ensures (unfold record_at in g)))))

pub loop-i-preserved : goal.loop-i-preserved
loop-i-preserved c =
    (omega arith, walk-next c.loop-i.invariant.1 (omega arith) c.child_from-i-else-is_part.ensures (λ g f. parts-on _ _ f (rw c.record_at-t.ensures at (sym c.is_part.ensures ∙ c.if-is_part.false))) (λ g b f. parts-over _ _ b f))

pub returns : goal.returns
returns c = λ src. parts-end _ ∙ walk_end c.loop-i.invariant.1 (omega arith) ∙ parts-fresh src _ _
