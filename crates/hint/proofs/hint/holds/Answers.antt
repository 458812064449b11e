use Rattle.std.proofs.Common.{rules, tests}
use Rattle.std.proofs.lemmas.Iterator.Search.{any_from_yields_List}
use mathlib.Core.Path.{◌∙◌}
use lib.ListN.{length}
use Rattle.text.specs.Text.{same}
use Rattle.hint.proofs.Walks.{windows-shown, holding-windows}
use Rattle.hint.proofs.hint.holds.Goals as goal

pub returns : goal.returns
returns c =
    let w = c.args.word.now in
    let m = c.args.message.now in
    any_from_yields_List (λ p. same p w) c.any.new.self _ c.any.result c.any.ensures.ran (windows-shown (length w) m c.windows.ensures.rest c.windows.ensures.size c.requires) (λ x b q k. search (rules, tests))
    ∙ holding-windows w m c.requires
