use Rattle.table.specs.Rules.{offset_verdict}
use Rattle.table.specs.inner.Whole.{verdict_on}
use Rattle.table.proofs.check.check_offsets.Goals as goal

pub returns : goal.returns
unfolding offset_verdict verdict_on
returns c = c.verdict_on.ensures
