use Rattle.std.proofs.Common.{rules, tests}
use Rattle.std.proofs.lemmas.Iterator.{YieldsList-from_slice, YieldsList-from_zip}
use Rattle.std.proofs.lemmas.Iterator.Search.{all_from_yields_List}
use mathlib.Core.Path.{◌∙◌}
use borrow.Author.Tests.{ne_eqb}
use Rattle.text.proofs.Texts.{says-short, says-pairs, agrees}
use Rattle.text.proofs.text.says.Goals as goal

pub returns-then-word-t : goal.returns-then-word-t
returns-then-word-t c =
    let w = c.args.word.now in
    let t = c.args.t.now in
    all_from_yields_List agrees c.all.new.self _ c.all.result c.all.ensures.ran (YieldsList-from_zip (YieldsList-from_slice t cc) (YieldsList-from_slice w cc)) (λ x b q k. search (rules, tests))
    ∙ says-pairs w t c.if-word-t.true

pub returns-else-word-t : goal.returns-else-word-t
returns-else-word-t c = let d = c.if-word-t.false in ne_eqb _ _ d ∙ says-short _ _ d
