-- What C gets tells which reply was given: two replies that questions give and that are one number are one reply. Of lists it is said in
-- OneNumber.antt, of all of them at once.
-- Definitions only; the theorem is `apart` in proofs/Apart.antt.
use Rattle.lent.specs.Lists.{reply}
use Rattle.lent.specs.declared.refusal.Refusal.{Refusal}
use Rattle.lent.specs.Verdicts.{Verdict}
use Rattle.std.specs.Prelude.{ℕ, ◌≡◌, List, length, Result, Option}
use Rattle.table.specs.Rules.{verdict}
use Rattle.brackets.specs.Brackets.{stack_left, hint_of}
use Rattle.statement.specs.Statement.{enclosing_at}
use Rattle.cursor_root.specs.Root.{root_at}
use Rattle.replies.specs.Reply.{verdict_reply, record_reply, number_reply}

-- ---- what questions reply, before it is a number: over the table t and a source of n bytes

-- the check
abbrev pub check_reply : List ℕ → ℕ → Verdict
check_reply t n = verdict t n 0

-- the hint for a message
abbrev pub hint_for : List ℕ → ℕ → List ℕ → Result (Option ℕ) Refusal
hint_for t n message = reply (verdict t n (length message)) (hint_of message (stack_left t))

-- the statement and the root at the offset o
abbrev pub statement_for : List ℕ → ℕ → ℕ → Result (Option ℕ) Refusal
statement_for t n o = reply (verdict t n 0) (enclosing_at t o)

abbrev pub root_for : List ℕ → ℕ → ℕ → Result ℕ Refusal
root_for t n o = reply (verdict t n 0) (root_at t o)

-- ---- the statement

-- one number, one reply
abbrev pub OneReply : {R : Type 0} → (R → ℕ) → R → R → Type 0
OneReply number v w = number v ≡ number w → v ≡ w

-- of every two tables, sources, messages and offsets
pub record Apart : Type 0 where
  pub checks : (t t' : List ℕ) (n n' : ℕ) → OneReply verdict_reply (check_reply t n) (check_reply t' n')
  pub hints : (t t' m m' : List ℕ) (n n' : ℕ) → OneReply record_reply (hint_for t n m) (hint_for t' n' m')
  pub statements : (t t' : List ℕ) (n n' o o' : ℕ) → OneReply record_reply (statement_for t n o) (statement_for t' n' o')
  pub roots : (t t' : List ℕ) (n n' o o' : ℕ) → OneReply number_reply (root_for t n o) (root_for t' n' o')
