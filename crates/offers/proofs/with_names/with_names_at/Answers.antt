use Rattle.std.proofs.lemmas.Result.{err_from_is_err_and}
use Rattle.cursor_root.proofs.RootLaws.{root-shallow}
use Rattle.table.proofs.Checks.{rules-refused, rules-passed}
use Rattle.forest.proofs.Sense.{admitted-sized}
use Rattle.forest.proofs.Above.{admitted-climbs}
use Rattle.lent.proofs.Writes.{list-refused, list-admitted}
use Rattle.names.specs.Bindings.{binding_row}
use Rattle.offers.proofs.with_names.with_names_at.Goals as goal

pub root_at-root-requires : goal.root_at-root-requires
root_at-root-requires c = admitted-sized _ _ c.check.ensures c.in_ok-check.was

pub list_offered-requires : goal.list_offered-requires
list_offered-requires c =
    (root-shallow _ _ _ c.check.ensures c.in_ok-check.was c.root_at-root.ensures, admitted-climbs _ _ c.check.ensures c.in_ok-check.was)

pub returns-in_err-check : goal.returns-in_err-check
returns-in_err-check c =
    let p = err_from_is_err_and c.from_residual.result c.from_residual.ensures.1 in rw (p.1, p.2) (list-refused binding_row _ _ _ (rules-refused _ _ _ c.check.ensures c.in_err-check.was))

pub returns : goal.returns
returns c =
    list-admitted binding_row _ _ _ (rules-passed _ _ _ c.check.ensures c.in_ok-check.was) (rw c.root_at-root.ensures at c.list_offered.ensures)
