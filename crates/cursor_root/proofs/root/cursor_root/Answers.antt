use Rattle.std.proofs.lemmas.Result.{err_from_is_err_and}
use Rattle.forest.proofs.Sense.{admitted-sized}
use Rattle.lent.proofs.Verdicts.{reply-refused, reply-given}
use Rattle.cursor_root.proofs.root.cursor_root.Goals as goal

pub root_at-requires : goal.root_at-requires
root_at-requires c = admitted-sized _ _ c.check.ensures c.in_ok-check.was

pub returns-in_err-check : goal.returns-in_err-check
returns-in_err-check c =
    let p = err_from_is_err_and c.from_residual.result c.from_residual.ensures.1 in rw (p.1, p.2) (reply-refused _ c.check.ensures c.in_err-check.was)

pub returns : goal.returns
returns c = reply-given _ c.check.ensures c.in_ok-check.was c.root_at.ensures
