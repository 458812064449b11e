use Rattle.path.proofs.Steps.{over, rule-above}
use Rattle.path.proofs.rules.rule_over.Goals as goal

pub returns-in_err-rule : goal.returns-in_err-rule
unfolding over
returns-in_err-rule c = rw (c.from_residual.ensures, rule-above _ _, ← c.rule_by_kind.ensures, c.in_err-rule.was)

pub returns-then-applies_over : goal.returns-then-applies_over
unfolding over
returns-then-applies_over c =
    rw (rule-above _ _, ← c.rule_by_kind.ensures, c.in_ok-rule.was, ← c.applies_over.ensures, c.if-applies_over.true)

pub returns-else-applies_over : goal.returns-else-applies_over
unfolding over
returns-else-applies_over c =
    rw (rule-above _ _, ← c.rule_by_kind.ensures, c.in_ok-rule.was, ← c.applies_over.ensures, c.if-applies_over.false)
