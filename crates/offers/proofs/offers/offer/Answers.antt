use Rattle.std.proofs.lemmas.Result.{err_from_is_err_and}
use Rattle.cursor_root.proofs.RootLaws.{root-within}
use Rattle.forest.proofs.Sense.{admitted-sized}
use Rattle.lent.proofs.Writes.{list-refused, list-admitted}
use Rattle.table.proofs.Checks.{rules-refused, rules-passed}
use Rattle.tables.specs.inner.Rows.{as_row}
use Rattle.offers.proofs.offers.offer.Goals as goal

pub root_at-root-requires : goal.root_at-root-requires
root_at-root-requires c = admitted-sized _ _ c.check.ensures c.in_ok-check.was

pub list_in-requires : goal.list_in-requires
list_in-requires c = root-within _ _ _ c.check.ensures c.in_ok-check.was c.root_at-root.ensures

pub returns-in_err-check : goal.returns-in_err-check
returns-in_err-check c =
    let p = err_from_is_err_and c.from_residual.result c.from_residual.ensures.1 in rw (p.1, p.2) (list-refused as_row _ _ _ (rules-refused _ _ _ c.check.ensures c.in_err-check.was))

pub returns : goal.returns
returns c =
    list-admitted as_row _ _ _ (rules-passed _ _ _ c.check.ensures c.in_ok-check.was) (rw c.root_at-root.ensures at c.list_in.ensures)
