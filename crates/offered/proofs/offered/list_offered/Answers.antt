use Rattle.std.proofs.Common.{rules}
use mathlib.Core.Path.{refl}
use mathlib.Core.List.{[], map}
use lib.ListN.{length-map}
use Rattle.lent.specs.Lists.{Written}
use Rattle.lent.proofs.Writes.{written-map, length-wide, bytes-map}
use Rattle.lists.proofs.ListLaws.{question}
use Rattle.names.specs.Bindings.{binding_row, binding_bytes}
use Rattle.enclosing.specs.Offered.{offered_in}
use Prim.Native.Nat.{◌+◌, ◌≤◌}
use native.Mathlib.Omega.{arith}
use Rattle.enclosing.specs.inner.Climb.{around_bytes, own_list_bytes}
use Rattle.offered.proofs.offered.list_offered.Goals as goal

pub list_walked-requires-clause-counted : goal.list_walked-requires-clause-counted
list_walked-requires-clause-counted c p n q e = let b : n ≤ 0 + own_list_bytes + around_bytes = search rules in omega (arith, b)

pub returns : goal.returns
returns c =
    let a = c.args in
    let es = offered_in a.source.now a.table.now a.n in
    question binding_row es [] _ refl
    (c.list_walked.ensures (map binding_row es) (λ p q n e.
    let w : Written binding_row es p.now 0 q.now n = search rules in
    written-map binding_row es w)
    (rw (bytes-map binding_row es, length-map es binding_row) (length-wide binding_row binding_bytes (λ b. refl) es)))
