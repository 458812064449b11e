use Rattle.references.proofs.PendingLaws.{shifted_in, shifted_start, shifted-part, shifted-on, shifted-over, shifted_none, shifted-many, shifted-held, part-not}
use Rattle.forest.proofs.Walks.{walk_from, walk_end, walk-next}
use Rattle.records.specs.Table.{record_at}
use mathlib.Core.Path.{◌∙◌, sym}
use native.Mathlib.Omega.{arith}
use Rattle.references.proofs.pending.extract_table_identifier.Goals as goal

pub loop-i-init : goal.loop-i-init
loop-i-init c =
    (omega arith, walk_from _ _ (shifted_in _ _ _ _ _) (rw (c.no_name-database.ensures, c.no_name-table.ensures) (shifted_start _ _ _)) (omega arith) c.child_from-i.ensures)

pub loop-i-preserved-then-is_part : goal.loop-i-preserved-then-is_part
loop-i-preserved-then-is_part c =
    (omega arith, walk-next c.loop-i.invariant.1 (omega arith) c.child_from-i-then-is_part.ensures (λ g f. shifted-part _ _ _ _ _ _ f (rw c.record_at-t.ensures at (sym c.is_part.ensures ∙ c.if-is_part.true)) (rw c.record_at-t.ensures at c.name_of-table.ensures)) (λ g b f. absurd (part-not _ (sym c.is_part.ensures ∙ c.if-is_part.true) (rw c.record_at-t.ensures (unfold record_at in g)))))

pub loop-i-preserved : goal.loop-i-preserved
loop-i-preserved c =
    (omega arith, walk-next c.loop-i.invariant.1 (omega arith) c.child_from-i-else-is_part.ensures (λ g f. shifted-on _ _ _ _ _ _ f (rw c.record_at-t.ensures at (sym c.is_part.ensures ∙ c.if-is_part.false))) (λ g b f. shifted-over _ _ _ _ _ _ b f))

pub returns-then-parts-eq0 : goal.returns-then-parts-eq0
returns-then-parts-eq0 c = shifted_none _ _ _ _ _ (omega arith) ∙ walk_end c.loop-i.invariant.1 (omega arith)

pub returns-then-parts-gt2 : goal.returns-then-parts-gt2
returns-then-parts-gt2 c = shifted-many _ _ _ _ _ (omega arith) ∙ walk_end c.loop-i.invariant.1 (omega arith)

pub returns : goal.returns
returns c =
    shifted-held _ _ _ _ _ (omega arith) (omega arith) c.no_name.ensures ∙ walk_end c.loop-i.invariant.1 (omega arith)
