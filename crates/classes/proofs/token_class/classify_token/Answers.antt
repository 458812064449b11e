use Rattle.classes.proofs.TokenLaws.{token-comment, token-number, token-quoted, token-word, token-string, token-operator, token-none}
use native.Mathlib.Omega.{arith}
use Rattle.classes.proofs.token_class.classify_token.Goals as goal

pub returns-in-130 : goal.returns-in-130
returns-in-130 c = token-comment _ _ _ _ _ c.in-130.is

pub returns-in-133 : goal.returns-in-133
returns-in-133 c = token-number _ _ _ _ _ c.in-133.is

pub returns-in-132 : goal.returns-in-132
returns-in-132 c = token-quoted _ _ _ _ _ c.in-132.is c.classify_identifier_by_parent.ensures

pub returns-in-131 : goal.returns-in-131
returns-in-131 c = token-word _ _ _ _ _ c.in-131.is c.text_of.ensures c.classify_bareword.ensures

pub returns-in-134-to-135 : goal.returns-in-134-to-135
returns-in-134-to-135 c = token-string _ _ _ _ _ (omega arith) (omega arith)

pub returns-in-143-to-157 : goal.returns-in-143-to-157
returns-in-143-to-157 c = token-operator _ _ _ _ _ (omega arith) (omega arith)

pub returns-in_default : goal.returns-in_default
returns-in_default c =
    token-none _ _ _ _ _ (omega arith) (omega arith) (omega arith) (omega arith) (λ x y. omega arith) (λ x y. omega arith)

pub returns-in_default-2 : goal.returns-in_default-2
returns-in_default-2 c =
    token-none _ _ _ _ _ (omega arith) (omega arith) (omega arith) (omega arith) (λ x y. omega arith) (λ x y. omega arith)

pub returns-in_default-3 : goal.returns-in_default-3
returns-in_default-3 c =
    token-none _ _ _ _ _ (omega arith) (omega arith) (omega arith) (omega arith) (λ x y. omega arith) (λ x y. omega arith)
