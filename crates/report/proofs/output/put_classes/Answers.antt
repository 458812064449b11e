use Rattle.class_list.specs.Classes.{class_row, classes_of}
use Rattle.table.specs.Rules.{rules, verdict}
use Rattle.scope.proofs.Fitting.{classes-fit, classes-few}
use Rattle.report.proofs.Answers.{list-fits}
use lib.ListN.{length}
use mathlib.Core.Path.{refl}
use native.Mathlib.Omega.{arith}
use Rattle.report.proofs.output.put_classes.Goals as goal

pub put_list-requires : goal.put_list-requires
unfolding verdict
put_list-requires c =
    let m = classes-few c.args.source.now c.args.table.now (length c.args.source.now) 0 c.requires.0 in
    let w = c.token_classes.ensures in
    let f = list-fits class_row 3 (λ e. refl) (rules c.args.table.now (length c.args.source.now) 0) (classes_of c.args.source.now c.args.table.now) _ 1024 _ c.requires.0 (classes-fit c.args.source.now c.args.table.now (length c.args.source.now) 0 c.requires.0) (omega (arith, m)) (omega arith) w.0 w.1 in
    let k = c.entry_count-n.ensures in
    (omega arith, rw k f.1, omega (arith, k, f.0))

pub returns : goal.returns
unfolding verdict
returns c =
    let m = classes-few c.args.source.now c.args.table.now (length c.args.source.now) 0 c.requires.0 in
    let w = c.token_classes.ensures in
    let f = list-fits class_row 3 (λ e. refl) (rules c.args.table.now (length c.args.source.now) 0) (classes_of c.args.source.now c.args.table.now) _ 1024 _ c.requires.0 (classes-fit c.args.source.now c.args.table.now (length c.args.source.now) 0 c.requires.0) (omega (arith, m)) (omega arith) w.0 w.1 in
    let k = c.entry_count-n.ensures in
    (rw (← f.2 75 3, ← k) c.put_list.ensures.0, omega (arith, k, f.0))
