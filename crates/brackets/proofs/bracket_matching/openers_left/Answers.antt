use Rattle.std.proofs.lemmas.Result.{err_from_is_err_and}
use Rattle.brackets.specs.Brackets.{opener_row}
use Rattle.brackets.proofs.OneByOne.{admitted-stacks}
use Rattle.forest.proofs.Sense.{admitted-tidy}
use Rattle.lent.proofs.Writes.{list-refused, list-admitted}
use Rattle.table.specs.Rules.{verdict}
use lib.ListN.{length}
use mathlib.Core.Path.{sym, ◌∙◌}
use Rattle.brackets.proofs.bracket_matching.openers_left.Goals as goal

pub list_openers-requires : goal.list_openers-requires
unfolding verdict
list_openers-requires c =
    let a = c.args in
    let admitted = sym c.check.ensures ∙ c.in_ok-check.was in
    let w = admitted-tidy a.table.now (length a.source.now) 0 admitted in
    (w.some, w.few, admitted-stacks a.table.now (length a.source.now) 0 admitted)

pub returns-in_err-check : goal.returns-in_err-check
unfolding verdict
returns-in_err-check c =
    let p = err_from_is_err_and c.from_residual.result c.from_residual.ensures.1 in rw (p.1, p.2) (list-refused opener_row _ _ _ (sym c.in_err-check.was ∙ c.check.ensures))

pub returns : goal.returns
unfolding verdict
returns c = list-admitted opener_row _ _ _ (sym c.in_ok-check.was ∙ c.check.ensures) c.list_openers.ensures
