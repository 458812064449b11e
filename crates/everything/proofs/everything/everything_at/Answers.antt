use Rattle.std.proofs.lemmas.Result.{err_from_is_err_and}
use Rattle.everything.proofs.EverythingLaws.{everything-refused}
use Rattle.table.proofs.Checks.{rules-refused}
use mathlib.Core.Path.{sym, ◌∙◌}
use Rattle.everything.proofs.everything.everything_at.Goals as goal

pub everything_in-requires : goal.everything_in-requires
everything_in-requires c = sym c.in_ok-check.was ∙ c.check.ensures

pub returns-in_err-check : goal.returns-in_err-check
returns-in_err-check c =
    let p = err_from_is_err_and c.from_residual.result c.from_residual.ensures.1 in rw (p.1, p.2) (everything-refused _ _ _ _ (rules-refused _ _ _ c.check.ensures c.in_err-check.was))

pub returns : goal.returns
returns c = c.everything_in.ensures
