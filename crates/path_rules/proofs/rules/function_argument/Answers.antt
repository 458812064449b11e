use Rattle.contexts.specs.PathRules.{function_argument}
use Rattle.path_rules.proofs.rules.function_argument.Goals as goal

pub returns : goal.returns
unfolding function_argument
returns c = λ base. rw (c.extract_function_name.ensures base, c.count_commas_before.ensures base)
