use Rattle.std.proofs.lemmas.Result.{err_from_is_err_and}
use Rattle.above.specs.Above.{above_row}
use Rattle.above.proofs.AboveLaws.{number-refused, number-none, number-admitted, climbed}
use Rattle.lent.proofs.Writes.{list-refused, list-admitted}
use Rattle.above.proofs.above.records_above.Goals as goal

pub list_above-requires : goal.list_above-requires
list_above-requires c = climbed _ _ _ c.check.ensures c.in_ok-check.was (rw c.count_of.ensures at c.if-count_of-n.false)

pub returns : goal.returns
returns c =
    list-admitted above_row _ _ _ (number-admitted _ _ _ c.check.ensures c.in_ok-check.was (rw c.count_of.ensures at c.if-count_of-n.false)) c.list_above.ensures

pub returns-in_err-check : goal.returns-in_err-check
returns-in_err-check c =
    let p = err_from_is_err_and c.from_residual.result c.from_residual.ensures.1 in rw (p.1, p.2) (list-refused above_row _ _ _ (number-refused _ _ _ c.check.ensures c.in_err-check.was))

pub returns-then-count_of-n : goal.returns-then-count_of-n
returns-then-count_of-n c =
    rw c.refused.ensures (list-refused above_row _ _ _ (number-none _ _ _ c.check.ensures c.in_ok-check.was (rw c.count_of.ensures at c.if-count_of-n.true)))
