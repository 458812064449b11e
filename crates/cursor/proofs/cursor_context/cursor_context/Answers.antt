use Rattle.std.proofs.lemmas.Result.{err_from_is_err_and}
use Rattle.lent.proofs.Verdicts.{reply-refused, reply-given}
use Rattle.forest.proofs.Orders.{admitted-ordered}
use Rattle.forest.proofs.Sense.{admitted-sized}
use Rattle.cursor.proofs.cursor_context.cursor_context.Goals as goal

pub context_at-requires : goal.context_at-requires
context_at-requires c =
    let z = admitted-sized _ _ c.check.ensures c.in_ok-check.was in (z.0, z.1, admitted-ordered _ _ c.check.ensures c.in_ok-check.was)

pub returns-in_err-check : goal.returns-in_err-check
returns-in_err-check c =
    let p = err_from_is_err_and c.from_residual.result c.from_residual.ensures.1 in rw (p.1, p.2) (reply-refused _ c.check.ensures c.in_err-check.was)

pub returns : goal.returns
returns c = reply-given _ c.check.ensures c.in_ok-check.was c.context_at.ensures
