use mathlib.Core.Path.{sym, ◌∙◌}
use Rattle.names.proofs.NameLaws.{first-stop, first-end, first_on, first-over}
use Rattle.names.specs.Names.{with_item}
use Rattle.forest.proofs.Walks.{walk_start, walk_end, walk-next}
use native.Mathlib.Omega.{arith}
use Rattle.names.proofs.names.extract_cte.Goals as goal

pub loop-i-init : goal.loop-i-init
loop-i-init c = (omega arith, walk_start _ _ (with_item _ _) (omega arith) c.child_from-i.ensures)

pub returns-then-is_name : goal.returns-then-is_name
returns-then-is_name c =
    first-stop _ c.loop-i.invariant.1 (omega arith) c.record_at-t.ensures c.is_name.ensures c.if-is_name.true c.record_at.ensures c.binding_of.ensures

pub loop-i-preserved : goal.loop-i-preserved
loop-i-preserved c =
    (omega arith, walk-next c.loop-i.invariant.1 (omega arith) c.child_from-i-in-loop-i.ensures (λ g f. first_on _ _ _ f (rw c.record_at-t.ensures at (sym c.is_name.ensures ∙ c.if-is_name.false))) (λ g b f. first-over _ _ _ b f))

pub returns : goal.returns
returns c = first-end _ _ ∙ walk_end c.loop-i.invariant.1 (omega arith)
