use Rattle.contexts.specs.PathRules.{table_reference, joined}
use Rattle.path_rules.proofs.rules.join_context.Goals as goal

pub returns-then-is_join_word-constrained : goal.returns-then-is_join_word-constrained
unfolding table_reference joined
returns-then-is_join_word-constrained c =
    λ base. rw (← c.token_before_offset-two.ensures base, ← c.is_join_word.ensures, c.if-is_join_word-constrained.true)

pub returns : goal.returns
unfolding table_reference joined
returns c =
    λ base. rw (c.find_identifier_before_dot.ensures, ← c.token_before_offset-two.ensures base, ← c.is_join_word.ensures, c.if-is_join_word-constrained.false)
