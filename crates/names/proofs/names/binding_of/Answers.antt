use Rattle.names.specs.Names.{binding}
use Rattle.names.proofs.names.binding_of.Goals as goal

pub returns : goal.returns
unfolding binding
returns c = rw (c.name_of-n.ensures, c.from.ensures)
