use Rattle.report.specs.inner.Room.{entry_count}
use Rattle.report.proofs.output.entry_count.Goals as goal

pub returns-in-Ok : goal.returns-in-Ok
unfolding entry_count
returns-in-Ok c = rw c.in-Ok.is

pub returns-in-Err : goal.returns-in-Err
unfolding entry_count
returns-in-Err c = rw c.in-Err.is
