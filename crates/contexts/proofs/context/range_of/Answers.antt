use Rattle.contexts.specs.Context.{range_of}
use Rattle.contexts.proofs.context.range_of.Goals as goal

pub returns : goal.returns
unfolding range_of
returns c = rw (c.unwrap_or.ensures, c.no_range.ensures)
