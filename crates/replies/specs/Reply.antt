-- The replies as C gets them: one number of 64 bits, whose halves `packed` puts together.
-- Definitions only.
use Rattle.lent.specs.declared.refusal.Refusal.{Refusal}
use Rattle.std.specs.Prelude.{ℕ, ◌+◌, ◌*◌, List, ◌≡◌, Ok, Err, Result, Option, Some, None}
use Rattle.lent.specs.Numbers.{word_limit}
use Rattle.records.specs.Ranges.{absent_number}
use Rattle.lent.specs.Verdicts.{Rule, Verdict, number_of}
use Rattle.lent.specs.Lists.{listed, lent}

-- how many values a half has
abbrev pub half : ℕ
half = word_limit

-- the low half is a refusal's number, 0 where the question is answered; the high half its detail, or the answer
abbrev pub packed : ℕ → ℕ → ℕ
packed low high = low + half * high

-- the low half of an answer
abbrev pub answered : ℕ
answered = 0

-- the high half where the answer is that there is none
abbrev pub no_record : ℕ
no_record = absent_number

-- a reply: the high half says what `high` says of the answer
unfoldable pub reply_number : {A : Type 0} → (A → ℕ) → Result A Refusal → ℕ
reply_number high (Ok a) = packed answered (high a)
reply_number high (Err r) = packed (number_of r.condition) r.detail

-- a verdict: nothing more to say where the table is admitted
abbrev pub verdict_reply : Verdict → ℕ
verdict_reply = reply_number (λ admitted. 0)

-- a list: how many entries were written; a root: its record
abbrev pub number_reply : Result ℕ Refusal → ℕ
number_reply = reply_number (λ n. n)

-- a record, or none
abbrev pub record_number : Option ℕ → ℕ
record_number (Some n) = n
record_number None = no_record

-- a hint, or an enclosing statement: its record, or none
abbrev pub record_reply : Result (Option ℕ) Refusal → ℕ
record_reply = reply_number record_number

-- a question for a list as C gets it: the reply's number, and its buffer before and afterwards
abbrev pub AnswersC : {E : Type 0} → List Rule → (E → List ℕ) → List E → List ℕ → ℕ → List ℕ → Type 0
AnswersC rs row es before reply after = (reply ≡ number_reply (listed rs row es before)) × (after ≡ lent rs row es before)
