use Rattle.std.specs.Prelude.{unwrap_or, IfSome}
use Rattle.tokens.specs.inner.Turns.{meant}
use Rattle.readings.proofs.Sweeping.{Reads}
use Prim.Native.Nat.{◌≤◌, ◌<◌}
use Rattle.readings.proofs.sweep.sweep.Given as goal

abbrev pub invariant-loop-i : goal.invariant-loop-i
invariant-loop-i l = ((unwrap_or l.w.arguments 0 ≤ l.i) × IfSome l.w.last (λ n. n < l.i) × IfSome l.w.before (λ n. n < l.i)) × Reads l.sought l.offset l.s l.k l.reach l.i (meant l.s l.w)
