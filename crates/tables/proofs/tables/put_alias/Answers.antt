use Rattle.tables.proofs.Turns.{alias-none, alias-held, alias-idle}
use Rattle.tables.proofs.WaitingLaws.{bound-at}
use Rattle.lent.proofs.Writes.{written_none, written-map}
use Rattle.names.specs.Bindings.{binding_row}
use Rattle.tables.specs.inner.Rows.{as_row}
use mathlib.Core.Path.{refl}
use native.Mathlib.Omega.{arith}
use Rattle.tables.proofs.tables.put_alias.Goals as goal

pub returns-in-References : goal.returns-in-References
returns-in-References c = (λ alias. rw (c.in-References.is, alias-none _ _) (written_none as_row _ _), omega arith)

pub returns-then-is_waiting : goal.returns-then-is_waiting
returns-then-is_waiting c =
    (λ alias. rw (c.in-Aliases.is, ← bound-at _ _ _ _ c.stretch_of.ensures.0 refl, alias-held _ _ (c.is_waiting.ensures _ alias) c.if-is_waiting.true) (written-map binding_row _ (rw c.stretch_of.ensures.1 at c.put_alias_name.ensures.0)), omega arith)

pub returns-else-is_waiting : goal.returns-else-is_waiting
returns-else-is_waiting c =
    (λ alias. rw (alias-idle _ _ _ (c.is_waiting.ensures _ alias) c.if-is_waiting.false) (written_none as_row _ _), omega arith)
