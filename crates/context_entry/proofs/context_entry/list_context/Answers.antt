use Rattle.contexts.specs.Context.{context_row}
use Rattle.lent.proofs.Writes.{written_one, length-wide, list-short, list-filled}
use mathlib.Core.Path.{refl, sym}
use mathlib.Core.List.{[], ◌∷◌}
use native.Mathlib.Omega.{arith}
use Rattle.context_entry.proofs.context_entry.list_context.Goals as goal

pub returns-then-out-lt-CONTEXT_BYTES : goal.returns-then-out-lt-CONTEXT_BYTES
unfolding context_row
returns-then-out-lt-CONTEXT_BYTES c = rw c.refused.ensures (list-short context_row 16 (λ e. refl) (omega arith) [] _ _ refl {m = 16} (sym (length-wide context_row 16 (λ e. refl) (_ ∷ []))) (omega arith))

pub returns : goal.returns
unfolding context_row
returns c =
    list-filled context_row 16 (λ e. refl) (omega arith) [] _ _ refl {m = 16} (written_one context_row _ _ 0 (rw (← c.code_of-k.ensures) c.put_entry.ensures.0) refl) (omega arith)
