use Rattle.items.proofs.items.is_below.Goals as goal

pub returns : goal.returns
returns c = rw (← c.stretch_end.ensures.0)
