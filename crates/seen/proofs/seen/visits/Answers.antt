use Rattle.seen.proofs.seen.visits.Goals as goal

pub returns : goal.returns
returns c = simp c.is_node.ensures
