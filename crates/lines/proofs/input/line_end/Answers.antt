use Rattle.std.proofs.Common.{rules, tests}
use Rattle.std.proofs.lemmas.Iterator.{YieldsList-from_slice}
use Rattle.std.proofs.lemmas.Iterator.Search.{position_from_yields_List}
use Rattle.lines.proofs.Reading.{is_lf, span-or-end}
use Rattle.lines.proofs.input.line_end.Goals as goal

pub returns : goal.returns
returns c =
    let bs = c.args.text.now in
    let p = position_from_yields_List is_lf c.position.new.self _ c.position.result c.position.ensures.ran (YieldsList-from_slice bs cc) (λ x b q k. search (rules, tests)) in
    span-or-end bs p c.unwrap_or.ensures
