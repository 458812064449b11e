use mathlib.Core.Path.{◌∙◌}
use Rattle.names.proofs.NameLaws.{last-token, last-over, last_end}
use Rattle.names.specs.Names.{alias_in}
use Rattle.forest.proofs.Walks.{walk_start, walk_end, walk-next}
use Rattle.records.specs.Table.{record_at}
use native.Mathlib.Omega.{arith}
use Rattle.names.proofs.names.extract_alias_name.Goals as goal

pub loop-i-init : goal.loop-i-init
loop-i-init c = (omega arith, walk_start _ _ (alias_in _ _) (omega arith) c.child_from-i.ensures)

pub loop-i-preserved : goal.loop-i-preserved
loop-i-preserved c =
    (omega arith, walk-next c.loop-i.invariant.1 (omega arith) c.child_from-i-in-loop-i.ensures (λ g f. last-token _ _ _ _ (rw c.record_at.ensures at c.later-last.ensures) f) (λ g b f. last-over _ _ _ _ (rw c.record_at.ensures at c.later-last.ensures) b f (unfold record_at in g)))

pub returns : goal.returns
returns c = rw (← c.record_at-r.ensures) (last_end _ _ _ ∙ walk_end c.loop-i.invariant.1 (omega arith))
