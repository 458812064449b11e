use Rattle.class_list.specs.Classes.{class_row}
use Rattle.lent.proofs.Writes.{list-filled, list-short}
use mathlib.Core.List.{[]}
use mathlib.Core.Path.{refl}
use native.Mathlib.Omega.{arith}
use Rattle.class_list.proofs.class_list.list_classes.Goals as goal
use Rattle.class_list.proofs.class_list.list_classes.Goals.{then-room-count_of+else-room-needed, else-room-count_of}

pub returns-then-room-needed : goal.returns-then-room-needed
returns-then-room-needed c = rw c.refused.ensures (list-short class_row 12 (λ e. refl) (omega arith) [] _ _ refl c.class_bytes-needed.ensures.0 c.if-room-needed.true)

pub returns : goal.returns
returns c =
    list-filled class_row 12 (λ e. refl) (omega arith) [] _ _ refl c.collect_tokens-size.ensures.0 (elim c.if-room-count_of.branch [ then-room-count_of+else-room-needed w ↦ omega (arith, c.collect_tokens-size.ensures.0.next) | else-room-count_of w ↦ omega (arith, c.collect_tokens-size.ensures.0.next) ])
