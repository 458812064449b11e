use Rattle.contexts.specs.Context.{context_row}
use Rattle.print.specs.Printed.{context_line}
use Rattle.lent.specs.Fit32.{Fit32}
use Rattle.print.proofs.Writing.{put_then}
use native.Mathlib.Omega.{arith}
use Rattle.print.proofs.printed.put_code.Goals as goal

pub put_field-second-requires : goal.put_field-second-requires
unfolding context_line context_row Fit32
put_field-second-requires c = let f = rw (← c.code_of-k.ensures) at c.requires.0 in omega (arith, f.0)

pub put_range-third-requires : goal.put_range-third-requires
unfolding context_line context_row Fit32
put_range-third-requires c = let f = rw (← c.code_of-k.ensures) at c.requires.0 in omega (arith, f.1.0, f.1.1.0)

pub put_field-fourth-requires : goal.put_field-fourth-requires
unfolding context_line context_row Fit32
put_field-fourth-requires c = let f = rw (← c.code_of-k.ensures) at c.requires.0 in omega (arith, f.1.1.1.0)

pub returns : goal.returns
unfolding context_line context_row Fit32
returns c =
    (rw (← c.code_of-k.ensures) (put_then c.put_byte-first.ensures (put_then (put_then (put_then c.put_field-second.ensures.0 c.put_range-third.ensures.0) c.put_field-fourth.ensures.0) c.put_byte.ensures)), omega arith)
