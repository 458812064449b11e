use Rattle.binders.proofs.Turns.{names-pass, names-bind, names-list, names-over, names-none}
use Rattle.binders.specs.inner.Binders.{names}
use Rattle.names.specs.Bindings.{binding_row}
use Rattle.lent.proofs.Writes.{written_none}
use Rattle.forest.proofs.Writing.{writing, writing-turn, writing-end}
use Rattle.forest.proofs.Walks.{walk_end}
use Rattle.forest.proofs.NodeWalks.{node-start, node-on, node_over}
use mathlib.Core.Path.{refl}
use native.Mathlib.Omega.{arith}
use Rattle.binders.proofs.binders.+collect_bound.Goals as goal

pub loop-i-init : goal.loop-i-init
loop-i-init t c =
    (omega arith, node-start (writing binding_row (names _ _) _ _) (names-pass _ _ _ _) _ _ (omega arith) c.node_from-i.ensures)

pub loop-i-preserved-then-is_binder : goal.loop-i-preserved-then-is_binder
loop-i-preserved-then-is_binder t c = (
  omega arith,
  node-on (writing binding_row (names _ _) _ _) (names-pass _ _ _ _) c.loop-i.invariant.1 (omega arith) c.stretch_of-child.ensures.0 (omega arith) c.node_from-i-then-is_binder.ensures
      (λ f. writing-turn binding_row (names _ _) (names _ _) _ _ (names-bind _ _ _ _ _ f c.kind_at-kind.ensures.0 (omega arith) c.stretch_of-child.ensures.0 c.is_binder.ensures c.if-is_binder.true refl) (rw c.stretch_of-child.ensures.1 at c.put_name-next.ensures.0)),
)

pub loop-i-preserved-then-is_list : goal.loop-i-preserved-then-is_list
loop-i-preserved-then-is_list t c = (
  omega arith,
  node-on (writing binding_row (names _ _) _ _) (names-pass _ _ _ _) c.loop-i.invariant.1 (omega arith) c.stretch_of-child-then-is_list.ensures.0 (omega arith) c.node_from-i-then-is_list.ensures
      (λ f. writing-turn binding_row (names _ _) (names _ _) _ _ (names-list _ _ _ _ _ f c.kind_at-kind.ensures.0 _ c.is_binder.ensures c.if-is_binder.false c.is_list.ensures c.if-is_list.true) (rw c.stretch_of-child-then-is_list.ensures.1 at c.collect_bound-next.ensures.0)),
)

pub loop-i-preserved : goal.loop-i-preserved
loop-i-preserved t c = (
  omega arith,
  node_over (writing binding_row (names _ _) _ _) (names-pass _ _ _ _) c.loop-i.invariant.1 (omega arith) c.node_from-i-else-is_list.ensures
      (λ b f. writing-turn binding_row (names _ _) (names _ _) _ _ (names-over _ _ _ _ _ f c.kind_at-kind.ensures.0 b c.is_binder.ensures c.if-is_binder.false c.is_list.ensures c.if-is_list.false) (written_none binding_row _ _)),
)

pub returns : goal.returns
returns t c =
    (writing-end binding_row (names _ _) _ (names-none _ _) (walk_end c.loop-i.invariant.1.walk (omega arith)), omega arith)
