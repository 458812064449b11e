use Rattle.path_rules.proofs.Columns.{column-none, column-some}
use Rattle.path_rules.proofs.rules.check_dot_access.Goals as goal

pub returns-in-None : goal.returns-in-None
returns-in-None c =
    λ base. rw (← c.token_before_offset-two.ensures base, ← c.find_identifier_before_dot.ensures) (column-none c.in-None.is)

pub returns-in-Some : goal.returns-in-Some
returns-in-Some c =
    λ base. rw (← c.token_before_offset-two.ensures base, ← c.find_identifier_before_dot.ensures) (column-some _ c.in-Some.is)
