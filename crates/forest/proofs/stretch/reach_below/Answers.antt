use Rattle.forest.proofs.stretch.reach_below.Goals as goal

pub returns-then-into : goal.returns-then-into
returns-then-into c = rw c.if-into.true
