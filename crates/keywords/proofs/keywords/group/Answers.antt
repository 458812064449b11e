use native.Mathlib.Omega.{arith}
use Rattle.keywords.proofs.KeywordLaws.{placed, there}
use Rattle.keywords.proofs.keywords.group.Goals as goal

pub slice_bounds-result-count : goal.slice_bounds-result-count
slice_bounds-result-count c =
    omega (arith, placed c.requires.0 c.args.n c.args.first (omega arith) (omega arith) (omega arith) (omega arith) (omega arith) c.cell_start-from.ensures c.cell_start-end.ensures)

pub slice_bounds-result-start : goal.slice_bounds-result-start
slice_bounds-result-start c =
    omega (arith, placed c.requires.0 c.args.n c.args.first (omega arith) (omega arith) (omega arith) (omega arith) (omega arith) c.cell_start-from.ensures c.cell_start-end.ensures)

pub slice_bounds-result-end : goal.slice_bounds-result-end
slice_bounds-result-end c =
    omega (arith, placed c.requires.0 c.args.n c.args.first (omega arith) (omega arith) (omega arith) (omega arith) (omega arith) c.cell_start-from.ensures c.cell_start-end.ensures)

pub returns : goal.returns
returns c =
    there c.requires.0 c.args.n c.args.first (omega arith) (omega arith) (omega arith) (omega arith) (omega arith) c.cell_start-from.ensures c.cell_start-end.ensures
