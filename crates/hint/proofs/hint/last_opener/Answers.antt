use Rattle.std.specs.Prelude.{Some}
use Rattle.std.proofs.Common.{rules, tests}
use Rattle.std.proofs.lemmas.Iterator.Adapters.{YieldsList-from_rev_slice}
use Rattle.std.proofs.lemmas.Iterator.Search.{find_from_yields_List}
use mathlib.Core.Path.{ap, ◌∙◌}
use Rattle.hint.proofs.Walks.{shaped, last-down}
use Rattle.hint.proofs.hint.last_opener.Goals as goal

pub returns-in_err-top : goal.returns-in_err-top
returns-in_err-top c =
    let a = c.args in
    let f = find_from_yields_List (shaped a.shape) c.find.new.self _ c.find.result c.find.ensures.ran (YieldsList-from_rev_slice c.openers.result.now cc) (λ x b q k. search (rules, tests)) in
    c.from_residual.ensures ∙ last-down a.shape a.stack.now c.openers.ensures.0 (rw c.in_err-top.was at f)

pub returns : goal.returns
returns c =
    let a = c.args in
    let f = find_from_yields_List (shaped a.shape) c.find.new.self _ c.find.result c.find.ensures.ran (YieldsList-from_rev_slice c.openers.result.now cc) (λ x b q k. search (rules, tests)) in
    ap Some c.from.ensures ∙ last-down a.shape a.stack.now c.openers.ensures.0 (rw c.in_ok-top.was at f)
