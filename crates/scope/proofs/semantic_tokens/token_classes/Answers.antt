use Rattle.std.proofs.lemmas.Result.{err_from_is_err_and}
use Rattle.class_list.specs.Classes.{class_row}
use Rattle.keywords.specs.inner.KeywordTable.{keyword_bytes}
use Rattle.keywords.specs.Keywords.{keywords}
use Rattle.forest.proofs.Sense.{admitted-tidy}
use Rattle.scope.proofs.Carried.{admitted-carries}
use Rattle.table.proofs.Checks.{rules-refused, rules-passed}
use Rattle.lent.proofs.Writes.{list-refused, list-admitted}
use Rattle.text.specs.Text.{bytes_of}
use mathlib.Core.List.{flatten}
use mathlib.Core.Path.{refl, sym, ◌∙◌}
use Rattle.scope.proofs.semantic_tokens.token_classes.Goals as goal

pub list_classes-requires : goal.list_classes-requires
unfolding keyword_bytes flatten keywords bytes_of
list_classes-requires c =
    let checked = c.check.ensures in
    let admitted = c.in_ok-check.was in
    (record { bytes = refl; places = refl }, (admitted-tidy _ _ 0 (sym checked ∙ admitted)).few, admitted-carries _ _ checked admitted)

pub returns-in_err-check : goal.returns-in_err-check
unfolding keyword_bytes flatten keywords bytes_of
returns-in_err-check c =
    let p = err_from_is_err_and c.from_residual.result c.from_residual.ensures.1 in rw (p.1, p.2) (list-refused class_row _ _ _ (rules-refused _ _ _ c.check.ensures c.in_err-check.was))

pub returns : goal.returns
unfolding keyword_bytes flatten keywords bytes_of
returns c =
    list-admitted class_row _ _ _ (rules-passed _ _ _ c.check.ensures c.in_ok-check.was) c.list_classes.ensures
