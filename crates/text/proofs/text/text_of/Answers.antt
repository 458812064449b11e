use native.Mathlib.Omega.{arith}
use Rattle.text.proofs.Texts.{text-back, text-inside, text-rest, text-past}
use Rattle.text.proofs.text.text_of.Goals as goal

pub returns-then-end-start : goal.returns-then-end-start
returns-then-end-start c = text-back _ _ _ (omega arith)

pub returns-then-end-n : goal.returns-then-end-n
returns-then-end-n c = text-inside _ _ _

pub returns-then-start-n : goal.returns-then-start-n
returns-then-start-n c = text-rest _ _ _ (omega arith) (omega arith)

pub returns : goal.returns
returns c = text-past _ _ _ (omega arith)
