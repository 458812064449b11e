use Rattle.std.proofs.Common.{rules}
use Prim.Native.Nat.{◌<◌}
use Rattle.lent.specs.Numbers.{word_limit}
use Rattle.lent.specs.Lists.{plain, Written}
use Rattle.collection.specs.Collection.{collection_of}
use Rattle.collection.specs.inner.Rows.{own_rows}
use Rattle.lists.proofs.ListLaws.{wide_at, wide-some}
use Rattle.lists.specs.inner.Rows.{rows_at}
use native.Mathlib.Omega.{arith}
use Rattle.std.proofs.Math.Nat.{div-le_self}
use Rattle.lists.proofs.lists.list_in.Goals as goal

pub list_walked-requires-clause-wide : goal.list_walked-requires-clause-wide
list_walked-requires-clause-wide c = rw c.width_of.ensures (wide-some c.args.asked)

pub list_walked-requires-clause-counted : goal.list_walked-requires-clause-counted
list_walked-requires-clause-counted c p n q e = let b : n < word_limit = search rules in omega (arith, b, div-le_self n c.width_of.result)

pub returns : goal.returns
returns c =
    let a = c.args in
    let rows = rows_at a.asked a.source.now a.table.now a.root in
    c.list_walked.ensures rows (λ p q n e.
    let w : Written plain (collection_of (own_rows a.asked a.source.now) a.root c.stretch_of.result.now) p.now 0 q.now n = search rules in
    rw c.stretch_of.ensures.0 at w)
    (rw c.width_of.ensures (wide_at a.asked a.source.now a.table.now a.root))
