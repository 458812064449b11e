use Rattle.records.specs.Table.{record_at}
use Rattle.records.proofs.record.record_at.Goals as goal

pub returns : goal.returns
unfolding record_at
returns c = rw (c.kind_at.ensures.0, c.depth_at.ensures.0, c.start_at.ensures.0, c.end_at.ensures.0)
