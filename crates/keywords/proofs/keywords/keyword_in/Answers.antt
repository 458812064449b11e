use native.Mathlib.Omega.{arith}
use Rattle.keywords.proofs.KeywordLaws.{not-keyword}
use Rattle.keywords.proofs.WordLaws.{folded-none}
use Rattle.keywords.proofs.keywords.keyword_in.Goals as goal

pub returns-then-n-lt-SHORTEST : goal.returns-then-n-lt-SHORTEST
returns-then-n-lt-SHORTEST c = not-keyword _ (λ low high l. omega arith)

pub returns-then-n-gt-LONGEST : goal.returns-then-n-gt-LONGEST
returns-then-n-gt-LONGEST c = not-keyword _ (λ low high l. omega arith)

pub returns-in_default : goal.returns-in_default
returns-in_default c = not-keyword _ (λ low high. folded-none c.cleared-first.ensures (λ h g. omega arith))

pub returns-in_default-2 : goal.returns-in_default-2
returns-in_default-2 c = not-keyword _ (λ low high. folded-none c.cleared-first.ensures (λ h g. omega arith))
