-- What the number of a reply tells a host: two calls of `ask` that got one number got one reply. None is so told apart from every record, and a
-- refusal from every answer.
-- Definitions only; the theorem is `one_number` in proofs/OneNumber.antt, over demands 1 and 2 alone.
use Rattle.lent.specs.declared.refusal.Refusal.{Refusal}
use Rattle.lent.specs.Verdicts.{Verdict}
use Rattle.std.specs.Prelude.{ℕ, ◌≡◌, List, length, Result, Option}
use Rattle.demands.specs.Apart.{check_reply, hint_for, statement_for, root_for}
use Rattle.demands.specs.declared.Question.{Question}
use Rattle.demands.specs.declared.Question.TheVariants.{Check, BracketHint, EnclosingStatement, CursorRoot}
use Rattle.demands.specs.Questions.{Asked, rows, matter}
use Rattle.demands.specs.Demand1.{First, Answer}
use Rattle.demands.specs.Demand2.{Meets}

-- the reply to a question, before it is a number
abbrev pub check_of : Asked → Verdict
check_of a = check_reply a.table (length a.source)

abbrev pub hints_of : Asked → Result (Option ℕ) Refusal
hints_of a = hint_for a.table (length a.source) a.message

abbrev pub statements_of : Asked → Result (Option ℕ) Refusal
statements_of a = statement_for a.table (length a.source) a.offset

abbrev pub roots_of : Asked → Result ℕ Refusal
roots_of a = root_for a.table (length a.source) a.offset

-- two calls for q, over any tables, that got the number r got one reply
abbrev pub SameReply : {R : Type 0} → Question → (Asked → R) → Type 0
SameReply q reply_of = (a a' : Asked) (r : ℕ) (o o' : List ℕ) → Meets q a r o → Meets q a' r o' → reply_of a ≡ reply_of a'

-- two calls for a list that were answered with the number r have as many entries
abbrev pub SameCount : Type 0
SameCount = (q : Question) (a a' : Asked) (r : ℕ) (o o' : List ℕ) (es es' : List (List ℕ)) → (matter q a).said ≡ rows es → (matter q a').said ≡ rows es'
    → Meets q a r o → Meets q a' r o' → Answer r → length es ≡ length es'

-- two calls that got the number r, for whatever questions, are refused for the same condition with the same detail, or neither is
abbrev pub SameRefusal : Type 0
SameRefusal = (q q' : Question) (a a' : Asked) (r : ℕ) (o o' : List ℕ) → Meets q a r o → Meets q' a' r o' → (k d : ℕ) → First a (matter q a) k d → First a' (matter q' a') k d

-- of the four questions that are answered by a number alone, of those for a list, and of all
pub record OneNumber : Type 0 where
  pub checks : SameReply Check check_of
  pub hints : SameReply BracketHint hints_of
  pub statements : SameReply EnclosingStatement statements_of
  pub roots : SameReply CursorRoot roots_of
  pub lists : SameCount
  pub refusals : SameRefusal
