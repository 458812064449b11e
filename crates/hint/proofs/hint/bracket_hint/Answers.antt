use Rattle.std.proofs.lemmas.Result.{err_from_is_err_and}
use Rattle.lent.proofs.Verdicts.{reply-refused, reply-given}
use Rattle.brackets.proofs.OneByOne.{admitted-stacks}
use Rattle.forest.proofs.Sense.{admitted-tidy}
use lib.ListN.{length}
use mathlib.Core.Path.{sym, ◌∙◌}
use Rattle.hint.proofs.hint.bracket_hint.Goals as goal

pub find_hint-requires : goal.find_hint-requires
find_hint-requires c =
    let a = c.args in
    let admitted = sym c.check_message.ensures ∙ c.in_ok-check_message.was in
    let w = admitted-tidy a.table.now (length a.source.now) (length a.message.now) admitted in
    (w.some, w.few, admitted-stacks a.table.now (length a.source.now) (length a.message.now) admitted)

pub returns-in_err-check_message : goal.returns-in_err-check_message
returns-in_err-check_message c =
    let p = err_from_is_err_and c.from_residual.result c.from_residual.ensures.1 in rw (p.1, p.2) (reply-refused _ c.check_message.ensures c.in_err-check_message.was)

pub returns : goal.returns
returns c = reply-given _ c.check_message.ensures c.in_ok-check_message.was c.find_hint.ensures
