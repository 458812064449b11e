use Rattle.std.proofs.lemmas.Result.{err_from_is_err_and}
use Rattle.lists.proofs.ListLaws.{root-first, root-passed, root-some}
use Rattle.lent.proofs.Writes.{list-refused, list-admitted}
use Rattle.tables.specs.inner.Rows.{as_row}
use native.Mathlib.Omega.{arith}
use Rattle.lists.proofs.lists.list_of.Goals as goal

pub list_in-requires : goal.list_in-requires
list_in-requires c = omega (arith, root-some _ _ _ c.check_root.ensures c.in_ok-check_root.was)

pub returns-in_err-check_root : goal.returns-in_err-check_root
returns-in_err-check_root c =
    let p = err_from_is_err_and c.from_residual.result c.from_residual.ensures.1 in rw (p.1, p.2) (list-refused as_row _ _ _ (root-first _ _ _ c.check_root.ensures c.in_err-check_root.was))

pub returns : goal.returns
returns c =
    list-admitted as_row _ _ _ (root-passed _ _ _ c.check_root.ensures c.in_ok-check_root.was) c.list_in.ensures
