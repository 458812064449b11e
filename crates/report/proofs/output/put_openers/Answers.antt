use Rattle.brackets.specs.Brackets.{opener_row, openers_left}
use Rattle.table.specs.Rules.{rules, verdict}
use Rattle.brackets.proofs.Fitting.{openers-fit, openers-few}
use Rattle.report.proofs.Answers.{list-fits}
use lib.ListN.{length}
use mathlib.Core.Path.{refl}
use native.Mathlib.Omega.{arith}
use Rattle.report.proofs.output.put_openers.Goals as goal

pub put_list-requires : goal.put_list-requires
unfolding verdict
put_list-requires c =
    let m = openers-few c.args.table.now (length c.args.source.now) 0 c.requires.0 in
    let w = c.openers_left.ensures in
    let f = list-fits opener_row 1 (λ e. refl) (rules c.args.table.now (length c.args.source.now) 0) (openers_left c.args.table.now) _ 1024 _ c.requires.0 (openers-fit c.args.table.now (length c.args.source.now) 0 c.requires.0) (omega (arith, m)) (omega arith) w.0 w.1 in
    let k = c.entry_count-n.ensures in
    (omega arith, rw k f.1, omega (arith, k, f.0))

pub returns : goal.returns
unfolding verdict
returns c =
    let m = openers-few c.args.table.now (length c.args.source.now) 0 c.requires.0 in
    let w = c.openers_left.ensures in
    let f = list-fits opener_row 1 (λ e. refl) (rules c.args.table.now (length c.args.source.now) 0) (openers_left c.args.table.now) _ 1024 _ c.requires.0 (openers-fit c.args.table.now (length c.args.source.now) 0 c.requires.0) (omega (arith, m)) (omega arith) w.0 w.1 in
    let k = c.entry_count-n.ensures in
    (rw (← f.2 79 1, ← k) c.put_list.ensures.0, omega (arith, k, f.0))
