use Rattle.contexts.proofs.context.code.Goals as goal

pub returns : goal.returns
returns c = rw c.range_of-range.ensures
