use Rattle.table.specs.Rules.{verdict}
use Rattle.table.specs.inner.Whole.{verdict_on}
use Rattle.table.proofs.check.check_message.Goals as goal

pub returns : goal.returns
unfolding verdict verdict_on
returns c = c.verdict_on.ensures
