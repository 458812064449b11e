use Rattle.std.proofs.Common.{rules, tests}
use Rattle.std.proofs.lemmas.Iterator.{YieldsList-from_slice}
use Rattle.std.proofs.lemmas.Iterator.Search.{all_from_yields_List}
use mathlib.Core.Path.{◌∙◌}
use Rattle.lines.specs.Lines.{is_digit}
use Rattle.lines.proofs.Reading.{digits-all}
use Rattle.lines.proofs.input.all_digits.Goals as goal

pub returns : goal.returns
returns c =
    let bs = c.args.bytes.now in
    all_from_yields_List is_digit c.all.new.self _ c.all.result c.all.ensures.ran (YieldsList-from_slice bs cc) (λ x b q k. search (rules, tests))
    ∙ digits-all bs
