use Rattle.path.specs.inner.Rules.{rule_numbered}
use native.Mathlib.Omega.{arith}
use borrow.Author.Tests.{ne_eqb}
use Rattle.path.proofs.rules.PathRule.numbered.Goals as goal

pub returns-in-2 : goal.returns-in-2
unfolding rule_numbered
returns-in-2 c = rw c.in-2.is

pub returns-in-3 : goal.returns-in-3
unfolding rule_numbered
returns-in-3 c = rw c.in-3.is

pub returns-in-4 : goal.returns-in-4
unfolding rule_numbered
returns-in-4 c = rw c.in-4.is

pub returns-in-5 : goal.returns-in-5
unfolding rule_numbered
returns-in-5 c = rw c.in-5.is

pub returns-in-6 : goal.returns-in-6
unfolding rule_numbered
returns-in-6 c = rw c.in-6.is

pub returns-in-7 : goal.returns-in-7
unfolding rule_numbered
returns-in-7 c = rw c.in-7.is

pub returns-in-8 : goal.returns-in-8
unfolding rule_numbered
returns-in-8 c = rw c.in-8.is

pub returns-in-9 : goal.returns-in-9
unfolding rule_numbered
returns-in-9 c = rw c.in-9.is

pub returns-in-10 : goal.returns-in-10
unfolding rule_numbered
returns-in-10 c = rw c.in-10.is

pub returns-in-11 : goal.returns-in-11
unfolding rule_numbered
returns-in-11 c = rw c.in-11.is

pub returns-in-12 : goal.returns-in-12
unfolding rule_numbered
returns-in-12 c = rw c.in-12.is

pub returns-in-13 : goal.returns-in-13
unfolding rule_numbered
returns-in-13 c = rw c.in-13.is

pub returns-in_default : goal.returns-in_default
unfolding rule_numbered
returns-in_default c =
    simp (
      ne_eqb c.args.number 2 (omega arith),
      ne_eqb c.args.number 3 (omega arith),
      ne_eqb c.args.number 4 (omega arith),
      ne_eqb c.args.number 5 (omega arith),
      ne_eqb c.args.number 6 (omega arith),
      ne_eqb c.args.number 7 (omega arith),
      ne_eqb c.args.number 8 (omega arith),
      ne_eqb c.args.number 9 (omega arith),
      ne_eqb c.args.number 10 (omega arith),
      ne_eqb c.args.number 11 (omega arith),
      ne_eqb c.args.number 12 (omega arith),
      ne_eqb c.args.number 13 (omega arith),
    )
