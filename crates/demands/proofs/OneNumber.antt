-- Two calls of `ask` that got one number got one reply:
--     one_number     THE THEOREM
-- Assumes nothing.
use Prim.Native.Nat.{ℕ}
use mathlib.Core.Path.{◌≡◌, sym, ◌∙◌}
use mathlib.Core.List.{List}
use native.Mathlib.Omega.{arith}
use lib.ListN.{length}
use Rattle.table.specs.Rules.{verdict}
use Rattle.brackets.specs.Brackets.{stack_left, hint_of}
use Rattle.statement.specs.Statement.{enclosing_at}
use Rattle.cursor_root.specs.Root.{root_at}
use Rattle.replies.specs.Reply.{packed, answered, record_number, verdict_reply, record_reply, number_reply}
use Rattle.demands.proofs.Apart.{apart}
use Rattle.demands.specs.declared.Question.{Question}
use Rattle.demands.specs.declared.Question.TheVariants.{Check, BracketHint, EnclosingStatement, CursorRoot}
use Rattle.demands.specs.Questions.{Asked, rows, matter, answer_of}
use Rattle.demands.specs.Demand1.{Answer}
use Rattle.demands.specs.Demand2.{Meets}
use Rattle.demands.specs.OneNumber.{check_of, hints_of, statements_of, roots_of, OneNumber}
use Rattle.demands.proofs.Replies.{demanded, one-reply, answered-free}
use Rattle.demands.proofs.Promises.{number-told, check-packed, reply-packed}

-- the number of a reply that meets the demands is that of the question's own reply
module _ (a : Asked) {r : ℕ} {o : List ℕ} where
  check-is : Meets Check a r o → r ≡ verdict_reply (check_of a)
  unfolding matter
  check-is x = (one-reply Check a x (demanded Check a (number-told a 0 0 (check-packed (verdict a.table (length a.source) 0))))).0

  hint-is : Meets BracketHint a r o → r ≡ record_reply (hints_of a)
  unfolding matter
  hint-is x =
      let h = hint_of a.message (stack_left a.table) in
      (one-reply BracketHint a x (demanded BracketHint a (number-told a (length a.message) (record_number h) (reply-packed record_number (verdict a.table (length a.source) (length a.message)) h)))).0

  statement-is : Meets EnclosingStatement a r o → r ≡ record_reply (statements_of a)
  unfolding matter
  statement-is x =
      let e = enclosing_at a.table a.offset in
      (one-reply EnclosingStatement a x (demanded EnclosingStatement a (number-told a 0 (record_number e) (reply-packed record_number (verdict a.table (length a.source) 0) e)))).0

  root_is : Meets CursorRoot a r o → r ≡ number_reply (roots_of a)
  unfolding matter
  root_is x =
      let i = root_at a.table a.offset in
      (one-reply CursorRoot a x (demanded CursorRoot a (number-told a 0 i (reply-packed (λ n. n) (verdict a.table (length a.source) 0) i)))).0

-- the number of an answer to a question for a list is how many entries there are
count-is : (q : Question) (a : Asked) {r : ℕ} {o : List ℕ} (es : List (List ℕ)) → (matter q a).said ≡ rows es → Meets q a r o → Answer r → r ≡ packed answered (length es)
unfolding answer_of
count-is q a es e x y = rw e at (x.1.answer (answered-free q a x.0 y))

-- THE THEOREM
pub one_number : OneNumber
one_number =
    record {
      checks = λ a a' r o o' x y. apart.checks _ _ _ _ (sym (check-is a x) ∙ check-is a' y);
      hints = λ a a' r o o' x y. apart.hints _ _ a.message a'.message _ _ (sym (hint-is a x) ∙ hint-is a' y);
      statements = λ a a' r o o' x y. apart.statements _ _ _ _ _ _ (sym (statement-is a x) ∙ statement-is a' y);
      roots = λ a a' r o o' x y. apart.roots _ _ _ _ _ _ (sym (root_is a x) ∙ root_is a' y);
      lists = λ q a a' r o o' es es' e e' x y z. omega (arith, count-is q a es e x z, count-is q a' es' e' y z);
      refusals = λ q q' a a' r o o' x y k d f. (y.0.exactly k d).0 ((x.0.exactly k d).1 f);
    }
