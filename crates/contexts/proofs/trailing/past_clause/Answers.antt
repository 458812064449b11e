use Rattle.contexts.specs.Trailing.{past_clause}
use native.Mathlib.Omega.{arith}
use borrow.Author.Tests.{ne_eqb}
use Rattle.contexts.proofs.trailing.past_clause.Goals as goal

pub returns-in-18 : goal.returns-in-18
unfolding past_clause
returns-in-18 c = rw c.in-18.is

pub returns-in-19 : goal.returns-in-19
unfolding past_clause
returns-in-19 c = rw c.in-19.is

pub returns-in-20 : goal.returns-in-20
unfolding past_clause
returns-in-20 c = rw c.in-20.is

pub returns-in-21 : goal.returns-in-21
unfolding past_clause
returns-in-21 c = rw c.in-21.is

pub returns-in-22 : goal.returns-in-22
unfolding past_clause
returns-in-22 c = rw c.in-22.is

pub returns-in-16 : goal.returns-in-16
unfolding past_clause
returns-in-16 c = rw c.in-16.is

pub returns-in-15 : goal.returns-in-15
unfolding past_clause
returns-in-15 c = rw c.in-15.is

pub returns-in-23 : goal.returns-in-23
unfolding past_clause
returns-in-23 c = rw c.in-23.is

pub returns-in-26 : goal.returns-in-26
unfolding past_clause
returns-in-26 c = rw c.in-26.is

pub returns-in_default : goal.returns-in_default
unfolding past_clause
returns-in_default c =
    simp (
      ne_eqb c.args.kind 18 (omega arith),
      ne_eqb c.args.kind 19 (omega arith),
      ne_eqb c.args.kind 20 (omega arith),
      ne_eqb c.args.kind 21 (omega arith),
      ne_eqb c.args.kind 22 (omega arith),
      ne_eqb c.args.kind 16 (omega arith),
      ne_eqb c.args.kind 15 (omega arith),
      ne_eqb c.args.kind 23 (omega arith),
      ne_eqb c.args.kind 26 (omega arith),
    )
