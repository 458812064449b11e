use Rattle.lines.specs.Lines.{is_hex}
use Rattle.lines.proofs.input.is_hex.Goals as goal

pub returns : goal.returns
unfolding is_hex
returns c = rw c.all_digits.ensures
