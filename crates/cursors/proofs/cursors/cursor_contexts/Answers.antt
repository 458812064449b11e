use Rattle.std.proofs.lemmas.Result.{err_from_is_err_and}
use Rattle.contexts.specs.Context.{context_row}
use Rattle.cursors.proofs.CursorsLaws.{offset-refused, offset-admitted, ready}
use Rattle.lent.proofs.Writes.{list-refused, list-admitted}
use Rattle.cursors.proofs.cursors.cursor_contexts.Goals as goal

pub list_contexts-requires : goal.list_contexts-requires
list_contexts-requires c = ready _ _ _ c.check_offsets.ensures c.in_ok-check_offsets.was

pub returns-in_err-check_offsets : goal.returns-in_err-check_offsets
returns-in_err-check_offsets c =
    let p = err_from_is_err_and c.from_residual.result c.from_residual.ensures.1 in rw (p.1, p.2) (list-refused context_row _ _ _ (offset-refused _ _ _ c.check_offsets.ensures c.in_err-check_offsets.was))

pub returns : goal.returns
returns c =
    list-admitted context_row _ _ _ (offset-admitted _ _ _ c.check_offsets.ensures c.in_ok-check_offsets.was) c.list_contexts.ensures
