use Rattle.classes.specs.TokenClass.{bareword}
use Rattle.classes.proofs.TokenLaws.{word-type, word-parameter, word-keyword}
use mathlib.Core.Path.{◌∙◌}
use native.Mathlib.Omega.{arith}
use Rattle.classes.proofs.token_class.classify_bareword.Goals as goal
use Rattle.classes.proofs.token_class.classify_bareword.Goals.{in_default-via-then-parent-lt40, in_default-via-else-parent-lt40+else-parent-lt43}

pub returns-in-49 : goal.returns-in-49
unfolding bareword
returns-in-49 c = word-parameter _ _ c.in-49.is

pub returns-in-40-to-42 : goal.returns-in-40-to-42
unfolding bareword
returns-in-40-to-42 c = word-type _ _ (omega arith) (omega arith)

pub returns-then-keyword_in : goal.returns-then-keyword_in
unfolding bareword
returns-then-keyword_in c =
    rw (← c.keyword_in.ensures, c.if-keyword_in.true) (word-keyword _ (λ x y. elim c.in_default.branch [ in_default-via-then-parent-lt40 w ↦ omega arith | in_default-via-else-parent-lt40+else-parent-lt43 w ↦ omega arith ]) (omega arith))

pub returns-else-keyword_in : goal.returns-else-keyword_in
unfolding bareword
returns-else-keyword_in c = c.classify_plain_word.ensures ∙ rw (← c.keyword_in.ensures, c.if-keyword_in.false)
