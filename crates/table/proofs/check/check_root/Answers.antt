use mathlib.Core.Path.{sym, ◌∙◌}
use Rattle.table.proofs.Checks.{root-refused, root_none, root-admitted}
use Rattle.table.proofs.check.check_root.Goals as goal

pub returns-in-Err : goal.returns-in-Err
returns-in-Err c = root-refused _ _ _ (sym c.in-Err.is ∙ c.check.ensures)

pub returns-then-no_root : goal.returns-then-no_root
returns-then-no_root c =
    c.refused.ensures ∙ root_none _ _ _ (sym c.in_default.is ∙ c.check.ensures) (sym c.no_root.ensures ∙ c.if-no_root.true)

pub returns : goal.returns
returns c = root-admitted _ _ _ (sym c.in_default.is ∙ c.check.ensures) (sym c.no_root.ensures ∙ c.if-no_root.false)
