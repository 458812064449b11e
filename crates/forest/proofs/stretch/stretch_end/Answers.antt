use Rattle.forest.proofs.Searches.{reached-stretch}
use native.Mathlib.Omega.{arith}
use Rattle.forest.proofs.stretch.stretch_end.Goals as goal

pub returns : goal.returns
returns c =
    let w = c.far_from.ensures in (reached-stretch _ _ c.depth_at.ensures.0 w, omega (arith, w.on), w.within)
