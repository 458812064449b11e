use Rattle.above.proofs.AboveLaws.{above-filled, above-short}
use Rattle.above.proofs.above.list_above.Goals as goal

pub returns-then-out-entries : goal.returns-then-out-entries
returns-then-out-entries c = rw c.refused.ensures (above-short _ _ c.requires.2 c.depth_at-entries.ensures.0 _ c.if-out-entries.true)

pub returns : goal.returns
returns c =
    above-filled _ _ c.requires.2 c.depth_at-entries.ensures.0 _ c.collect_above.ensures c.if-out-entries.false
