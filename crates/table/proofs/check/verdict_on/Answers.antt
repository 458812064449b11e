use Rattle.table.proofs.Checks.{few, some}
use Rattle.table.specs.inner.Whole.{verdict_on}
use mathlib.Core.Path.{sym, ◌∙◌}
use Rattle.table.proofs.check.verdict_on.Goals as goal

pub returns-then-bad_length : goal.returns-then-bad_length
unfolding verdict_on
returns-then-bad_length c = c.refused.ensures ∙ simp (← c.bad_length.ensures, c.if-bad_length.true)

pub returns-then-too_long : goal.returns-then-too_long
unfolding verdict_on
returns-then-too_long c = c.refused-then-too_long.ensures ∙ simp (← c.bad_length.ensures, c.if-bad_length.false, ← c.too_long.ensures, c.if-too_long.true)

pub returns-then-bad_offsets : goal.returns-then-bad_offsets
unfolding verdict_on
returns-then-bad_offsets c =
    c.refused-then-bad_offsets.ensures ∙ simp (← c.bad_length.ensures, c.if-bad_length.false, ← c.too_long.ensures, c.if-too_long.false, ← c.bad_offsets.ensures, c.if-bad_offsets.true)

pub all_in_order-requires : goal.all_in_order-requires
unfolding verdict_on
all_in_order-requires c =
    let e = sym c.bad_length.ensures ∙ c.if-bad_length.false in let t = c.args.table.now in (some t e, few t e)

pub returns-then-all_in_order : goal.returns-then-all_in_order
unfolding verdict_on
returns-then-all_in_order c =
    c.all_in_order.ensures c.if-all_in_order.true ∙ simp (← c.bad_length.ensures, c.if-bad_length.false, ← c.too_long.ensures, c.if-too_long.false, ← c.bad_offsets.ensures, c.if-bad_offsets.false)

pub check_records-requires : goal.check_records-requires
unfolding verdict_on
check_records-requires c = few c.args.table.now (sym c.bad_length.ensures ∙ c.if-bad_length.false)

pub returns : goal.returns
unfolding verdict_on
returns c =
    c.check_records.ensures ∙ simp (← c.bad_length.ensures, c.if-bad_length.false, ← c.too_long.ensures, c.if-too_long.false, ← c.bad_offsets.ensures, c.if-bad_offsets.false)
