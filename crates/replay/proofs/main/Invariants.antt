use Rattle.std.proofs.Common.{◌-◌, ◌≤◌}
use Rattle.replay.proofs.main.Given as goal

abbrev pub invariant-loop-frames : goal.invariant-loop-frames
invariant-loop-frames l = l.agreed ≤ l.frames

abbrev pub decreases-loop-frames : goal.decreases-loop-frames
decreases-loop-frames l = 18446744073709551615 - l.frames
