use Rattle.names.specs.Names.{is_part}
use borrow.Author.Rules.{rules}
use Rattle.names.proofs.names.is_part.Goals as goal

pub returns : goal.returns
unfolding is_part
returns c = search rules
