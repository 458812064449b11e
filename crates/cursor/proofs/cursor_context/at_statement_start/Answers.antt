use Rattle.cursor.specs.CursorContext.{last_rule}
use native.Mathlib.Omega.{arith}
use borrow.Author.Tests.{eq-eqb, ne_eqb}
use Rattle.cursor.proofs.cursor_context.at_statement_start.Goals as goal

pub returns-then-kind_at-ne-FILE : goal.returns-then-kind_at-ne-FILE
unfolding last_rule
returns-then-kind_at-ne-FILE c = rw (← c.kind_at.ensures.0, ne_eqb c.kind_at.result 1 (omega arith))

pub returns-then-starts_after : goal.returns-then-starts_after
unfolding last_rule
returns-then-starts_after c =
    rw (← c.kind_at.ensures.0, eq-eqb c.kind_at.result 1 (omega arith), ← c.token_before_offset-two.ensures 0, ← c.starts_after.ensures, c.if-starts_after.true)

pub returns : goal.returns
unfolding last_rule
returns c =
    rw (← c.kind_at.ensures.0, eq-eqb c.kind_at.result 1 (omega arith), ← c.token_before_offset-two.ensures 0, ← c.starts_after.ensures, c.if-starts_after.false)
