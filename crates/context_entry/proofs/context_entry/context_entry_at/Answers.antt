use Rattle.std.proofs.lemmas.Result.{err_from_is_err_and}
use Rattle.context_entry.proofs.Contexts.{context-refused, context-given}
use mathlib.Core.Path.{sym, ◌∙◌}
use Rattle.context_entry.proofs.context_entry.context_entry_at.Goals as goal

pub returns-in_err-c : goal.returns-in_err-c
returns-in_err-c c =
    let p = err_from_is_err_and c.from_residual.result c.from_residual.ensures.1 in
    rw (p.1, p.2) (context-refused _ _ _ _ (sym c.in_err-c.was ∙ c.cursor_context.ensures))

pub returns : goal.returns
returns c = context-given _ _ _ _ (sym c.in_ok-c.was ∙ c.cursor_context.ensures) c.list_context.ensures
