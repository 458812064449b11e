use Rattle.lines.specs.Frame.{spelt, hex_number}
use lib.ListN.{drop}
use mathlib.Core.Path.{◌≡◌}
use Prim.Native.Nat.{◌^◌, ◌<◌}
use Rattle.lines.proofs.input.number.Given as goal

abbrev pub invariant-loop-d : goal.invariant-loop-d
invariant-loop-d l = (l.v < 16 ^ l.d-index) × (hex_number l.digits ≡ spelt l.v (drop l.d-index l.digits))
