use Rattle.cursors.proofs.CursorsLaws.{contexts-filled, contexts-short}
use mathlib.Core.Path.{refl}
use Rattle.cursors.proofs.cursors.list_contexts.Goals as goal

pub returns-then-out-entries : goal.returns-then-out-entries
returns-then-out-entries c = rw c.refused.ensures (contexts-short _ _ _ refl _ c.if-out-entries.true)

pub returns : goal.returns
returns c = contexts-filled _ _ _ refl _ c.collect_contexts.ensures c.if-out-entries.false
