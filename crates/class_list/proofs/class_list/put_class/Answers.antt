use Rattle.class_list.proofs.ClassLaws.{class-none, class-some}
use native.Mathlib.Omega.{arith}
use Rattle.class_list.proofs.class_list.put_class.Goals as goal

pub returns-in-None : goal.returns-in-None
returns-in-None c = (rw c.in-None.is (class-none _ _ _ _), omega arith)

pub returns-in-Some : goal.returns-in-Some
returns-in-Some c = (rw c.in-Some.is (class-some _ _ _ _ _ (rw c.number.ensures at c.put_entry.ensures.0) c.put_entry.ensures.1), omega arith)
