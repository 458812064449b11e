use Rattle.contexts.specs.PathRules.{table_reference}
use Rattle.path_rules.proofs.rules.table_ref_or_dot.Goals as goal

pub returns : goal.returns
unfolding table_reference
returns c = λ base. rw (c.find_identifier_before_dot.ensures, ← c.token_before_offset-two.ensures base)
