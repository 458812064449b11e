use Rattle.path.specs.inner.Rules.{rule_of}
use Rattle.path.specs.Path.{is_deepest, deepest_over}
use native.Mathlib.Omega.{arith}
use borrow.Author.Tests.{ne_eqb}
use Rattle.path.proofs.rules.rule_by_kind.Goals as goal

pub returns-in-16 : goal.returns-in-16
unfolding rule_of is_deepest deepest_over
returns-in-16 c = rw c.in-16.is

pub returns-in-17 : goal.returns-in-17
unfolding rule_of is_deepest deepest_over
returns-in-17 c = rw c.in-17.is

pub returns-in-5 : goal.returns-in-5
unfolding rule_of is_deepest deepest_over
returns-in-5 c = rw c.in-5.is

pub returns-in-23 : goal.returns-in-23
unfolding rule_of is_deepest deepest_over
returns-in-23 c = rw c.in-23.is

pub returns-in-24 : goal.returns-in-24
unfolding rule_of is_deepest deepest_over
returns-in-24 c = rw c.in-24.is

pub returns-in-25 : goal.returns-in-25
unfolding rule_of is_deepest deepest_over
returns-in-25 c = rw c.in-25.is

pub returns-in-26 : goal.returns-in-26
unfolding rule_of is_deepest deepest_over
returns-in-26 c = rw c.in-26.is

pub returns-in-27 : goal.returns-in-27
unfolding rule_of is_deepest deepest_over
returns-in-27 c = rw c.in-27.is

pub returns-in-38 : goal.returns-in-38
unfolding rule_of is_deepest deepest_over
returns-in-38 c = rw c.in-38.is

pub returns-in-40 : goal.returns-in-40
unfolding rule_of is_deepest deepest_over
returns-in-40 c = rw c.in-40.is

pub returns-in-41 : goal.returns-in-41
unfolding rule_of is_deepest deepest_over
returns-in-41 c = rw c.in-41.is

pub returns-in-37 : goal.returns-in-37
unfolding rule_of is_deepest deepest_over
returns-in-37 c = rw c.in-37.is

pub returns-in-39 : goal.returns-in-39
unfolding rule_of is_deepest deepest_over
returns-in-39 c = rw c.in-39.is

pub returns-in-43 : goal.returns-in-43
unfolding rule_of is_deepest deepest_over
returns-in-43 c = rw c.in-43.is

pub returns-in-44 : goal.returns-in-44
unfolding rule_of is_deepest deepest_over
returns-in-44 c = rw c.in-44.is

pub returns-in-15 : goal.returns-in-15
unfolding rule_of is_deepest deepest_over
returns-in-15 c = rw c.in-15.is

pub returns-in-18 : goal.returns-in-18
unfolding rule_of is_deepest deepest_over
returns-in-18 c = rw c.in-18.is

pub returns-in-19 : goal.returns-in-19
unfolding rule_of is_deepest deepest_over
returns-in-19 c = rw c.in-19.is

pub returns-in-20 : goal.returns-in-20
unfolding rule_of is_deepest deepest_over
returns-in-20 c = rw c.in-20.is

pub returns-in-21 : goal.returns-in-21
unfolding rule_of is_deepest deepest_over
returns-in-21 c = rw c.in-21.is

pub returns-in-22 : goal.returns-in-22
unfolding rule_of is_deepest deepest_over
returns-in-22 c = rw c.in-22.is

pub returns-in-1 : goal.returns-in-1
unfolding rule_of is_deepest deepest_over
returns-in-1 c = rw c.in-1.is

pub returns-in-2 : goal.returns-in-2
unfolding rule_of is_deepest deepest_over
returns-in-2 c = rw c.in-2.is

pub returns-in_default : goal.returns-in_default
unfolding rule_of is_deepest deepest_over
returns-in_default c =
    simp (
      ne_eqb c.args.kind 16 (omega arith),
      ne_eqb c.args.kind 17 (omega arith),
      ne_eqb c.args.kind 5 (omega arith),
      ne_eqb c.args.kind 23 (omega arith),
      ne_eqb c.args.kind 24 (omega arith),
      ne_eqb c.args.kind 25 (omega arith),
      ne_eqb c.args.kind 26 (omega arith),
      ne_eqb c.args.kind 27 (omega arith),
      ne_eqb c.args.kind 38 (omega arith),
      ne_eqb c.args.kind 40 (omega arith),
      ne_eqb c.args.kind 41 (omega arith),
      ne_eqb c.args.kind 37 (omega arith),
      ne_eqb c.args.kind 39 (omega arith),
      ne_eqb c.args.kind 43 (omega arith),
      ne_eqb c.args.kind 44 (omega arith),
      ne_eqb c.args.kind 15 (omega arith),
      ne_eqb c.args.kind 18 (omega arith),
      ne_eqb c.args.kind 19 (omega arith),
      ne_eqb c.args.kind 20 (omega arith),
      ne_eqb c.args.kind 21 (omega arith),
      ne_eqb c.args.kind 22 (omega arith),
      ne_eqb c.args.kind 1 (omega arith),
      ne_eqb c.args.kind 2 (omega arith),
    )
