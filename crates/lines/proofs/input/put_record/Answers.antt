use Rattle.lines.specs.Frame.{hex_number, fields_of}
use Rattle.lines.proofs.Reading.{text-most}
use lib.ListN.{length}
use mathlib.Core.Path.{ap}
use native.Mathlib.Omega.{arith}
use Rattle.lines.proofs.input.put_record.Goals as goal

pub number-kind-requires : goal.number-kind-requires
unfolding fields_of
number-kind-requires c = omega (arith, ap length c.text_of.ensures, text-most c.args.digits.now 0 2)

pub number-depth-requires : goal.number-depth-requires
unfolding fields_of
number-depth-requires c = omega (arith, ap length c.text_of-2.ensures, text-most c.args.digits.now 2 4)

pub number-start-requires : goal.number-start-requires
unfolding fields_of
number-start-requires c = omega (arith, ap length c.text_of-3.ensures, text-most c.args.digits.now 4 12)

pub number-end-requires : goal.number-end-requires
unfolding fields_of
number-end-requires c = omega (arith, ap length c.text_of-4.ensures, text-most c.args.digits.now 12 20)

pub number-parent-requires : goal.number-parent-requires
unfolding fields_of
number-parent-requires c = omega (arith, ap length c.text_of-5.ensures, text-most c.args.digits.now 20 28)

pub returns : goal.returns
unfolding fields_of
returns c =
    rw (← ap hex_number c.text_of.ensures, ← c.number-kind.ensures, ← ap hex_number c.text_of-2.ensures, ← c.number-depth.ensures, ← ap hex_number c.text_of-3.ensures, ← c.number-start.ensures, ← ap hex_number c.text_of-4.ensures, ← c.number-end.ensures, ← ap hex_number c.text_of-5.ensures, ← c.number-parent.ensures) c.put_entry.ensures.0
