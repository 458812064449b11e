use Rattle.contexts.specs.Context.{coded, context_row}
use Rattle.forest.proofs.Orders.{admitted-ordered}
use Rattle.forest.proofs.Sense.{admitted-sized}
use mathlib.Core.Path.{refl, sym, ap, ◌∙◌}
use Rattle.everything.proofs.everything.put_everything.Goals as goal

pub context_at-requires : goal.context_at-requires
unfolding context_row
context_at-requires c =
    let z = admitted-sized _ _ refl (sym c.requires) in (z.0, z.1, admitted-ordered _ _ refl (sym c.requires))

pub returns : goal.returns
unfolding context_row
returns c = rw (← (c.code_of-k.ensures ∙ ap coded c.context_at.ensures)) c.put_entry.ensures.0
