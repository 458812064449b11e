use Rattle.classes.proofs.TokenLaws.{by-function, by-type, by-table, by-definition, by-other}
use native.Mathlib.Omega.{arith}
use Rattle.classes.proofs.token_class.classify_identifier_by_parent.Goals as goal

pub returns-in-33-to-35 : goal.returns-in-33-to-35
returns-in-33-to-35 c = by-table _ (omega arith) (omega arith)

pub returns-in-40-to-42 : goal.returns-in-40-to-42
returns-in-40-to-42 c = by-type _ (omega arith) (omega arith)

pub returns-in-43-to-45 : goal.returns-in-43-to-45
returns-in-43-to-45 c = by-function _ (omega arith) (omega arith)

pub returns-in-50-to-51 : goal.returns-in-50-to-51
returns-in-50-to-51 c = by-definition _ (omega arith) (omega arith)

pub returns-in_default : goal.returns-in_default
returns-in_default c = by-other _ (λ x y. omega arith) (λ x y. omega arith) (λ x y. omega arith)

pub returns-in_default-2 : goal.returns-in_default-2
returns-in_default-2 c = by-other _ (λ x y. omega arith) (λ x y. omega arith) (λ x y. omega arith)

pub returns-in_default-3 : goal.returns-in_default-3
returns-in_default-3 c = by-other _ (λ x y. omega arith) (λ x y. omega arith) (λ x y. omega arith)

pub returns-in_default-4 : goal.returns-in_default-4
returns-in_default-4 c = by-other _ (λ x y. omega arith) (λ x y. omega arith) (λ x y. omega arith)
