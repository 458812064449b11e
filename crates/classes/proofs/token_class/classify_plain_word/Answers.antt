use Rattle.classes.proofs.TokenLaws.{word-type, word-parameter, word-function, word-table, word-definition, word-alias, word-column, word-expression, word_none}
use mathlib.Core.Bool.{false}
use native.Mathlib.Omega.{arith}
use Rattle.classes.proofs.token_class.classify_plain_word.Goals as goal

pub returns-in-49 : goal.returns-in-49
returns-in-49 c = word-parameter _ false c.in-49.is

pub returns-in-36 : goal.returns-in-36
returns-in-36 c = word-alias _ c.in-36.is

pub returns-in-55 : goal.returns-in-55
returns-in-55 c = word-expression _ c.in-55.is

pub returns-in-33-to-35 : goal.returns-in-33-to-35
returns-in-33-to-35 c = word-table _ (omega arith) (omega arith)

pub returns-in-40-to-42 : goal.returns-in-40-to-42
returns-in-40-to-42 c = word-type _ false (omega arith) (omega arith)

pub returns-in-43-to-45 : goal.returns-in-43-to-45
returns-in-43-to-45 c = word-function _ (omega arith) (omega arith)

pub returns-in-46-to-48 : goal.returns-in-46-to-48
returns-in-46-to-48 c = word-column _ (omega arith) (omega arith)

pub returns-in-50-to-54 : goal.returns-in-50-to-54
returns-in-50-to-54 c = word-definition _ (omega arith) (omega arith)

pub returns-in_default : goal.returns-in_default
returns-in_default c =
    word_none _ (λ x y. omega arith) (λ x y. omega arith) (λ x y. omega arith) (omega arith) (omega arith) (omega arith)

pub returns-in_default-2 : goal.returns-in_default-2
returns-in_default-2 c =
    word_none _ (λ x y. omega arith) (λ x y. omega arith) (λ x y. omega arith) (omega arith) (omega arith) (omega arith)

pub returns-in_default-3 : goal.returns-in_default-3
returns-in_default-3 c =
    word_none _ (λ x y. omega arith) (λ x y. omega arith) (λ x y. omega arith) (omega arith) (omega arith) (omega arith)
