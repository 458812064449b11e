use Rattle.demands.proofs.AtOnce.{at_once}
use Rattle.at_once.proofs.ask_at_once.Goals as goal

pub returns : goal.returns
returns c = let w = c.desk_everything_at.ensures in at_once _ _ _ _ w.value w.leaves
