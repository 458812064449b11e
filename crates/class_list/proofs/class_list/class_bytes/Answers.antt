use native.Mathlib.Omega.{arith}
use Rattle.class_list.proofs.class_list.class_bytes.Goals as goal

pub returns : goal.returns
returns c = (omega (arith, c.collect_tokens.ensures.0.next), omega arith)
