use Rattle.record_conditions.proofs.step.strays.Goals as goal

pub returns : goal.returns
returns c = rw (← c.parent_at.ensures.0)
