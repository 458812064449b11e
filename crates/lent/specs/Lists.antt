-- A list of entries in a lent buffer, and the answer of every question for a list.
-- An entry is of any type E; `row e` is its numbers, each of which takes four bytes.
-- Definitions only.
use Rattle.std.specs.Prelude.{ℕ, ◌+◌, ◌*◌, ◌≡◌, cond, List, [], ◌∷◌, Result, Ok, Err, ◌++◌, length, drop, ltb}
use Rattle.std.proofs.lemmas.List.Edits.{sets}
use Rattle.std.specs.Fn.{Shared}
use Rattle.std.specs.Borrow.{MutBor}
use Rattle.lent.specs.declared.refusal.Condition.TheVariants.{NoRoom}
use Rattle.lent.specs.declared.refusal.Refusal.{Refusal}
use Rattle.lent.specs.Numbers.{number_bytes, le4}
use Rattle.lent.specs.Verdicts.{Verdict, Rule, rule, first}

-- below which place a byte is that can be written: far behind every list, so that no place wraps
abbrev pub farthest : ℕ
farthest = 1152921504606846976

-- the bytes of an entry's numbers
unfoldable pub row_bytes : List ℕ → List ℕ
row_bytes [] = []
row_bytes (v ∷ vs) = le4 v ++ row_bytes vs

-- the bytes of a list of entries
unfoldable pub list_bytes : {E : Type 0} → (E → List ℕ) → List E → List ℕ
list_bytes row [] = []
list_bytes row (e ∷ es) = row_bytes (row e) ++ list_bytes row es

-- ---- the answer: refused by the first broken rule, of which the room for the list is the last

-- 7: the list needs more bytes than its buffer has; the detail is how many entries it has
abbrev pub room_rule : {E : Type 0} → (E → List ℕ) → List E → List ℕ → Rule
room_rule row es out = rule NoRoom (length es) (ltb (length out) (length (list_bytes row es)))

-- the verdict on a question that has the rules rs and would list es in out
abbrev pub list_verdict : {E : Type 0} → List Rule → (E → List ℕ) → List E → List ℕ → Verdict
list_verdict rs row es out = first (rs ++ room_rule row es out ∷ [])

-- the refusal, or the answer
unfoldable pub reply : {A : Type 0} → Verdict → A → Result A Refusal
reply (Ok admitted) a = Ok a
reply (Err r) a = Err r

-- the buffer as it was where the question is refused, else the new one
unfoldable pub buffer : Verdict → List ℕ → List ℕ → List ℕ
buffer (Ok admitted) new old = new
buffer (Err r) new old = old

-- the reply: how many entries there are
unfoldable pub listed : {E : Type 0} → List Rule → (E → List ℕ) → List E → List ℕ → Result ℕ Refusal
listed rs row es out = reply (list_verdict rs row es out) (length es)

-- the buffer afterwards: as it was, or with the list from its first byte on and the bytes behind it kept
unfoldable pub lent : {E : Type 0} → List Rule → (E → List ℕ) → List E → List ℕ → List ℕ
lent rs row es out = buffer (list_verdict rs row es out) (list_bytes row es ++ drop (length (list_bytes row es)) out) out

-- a question with the rules rs that lists es: its reply, and its buffer before and afterwards
abbrev pub Answers : {E : Type 0} → List Rule → (E → List ℕ) → List E → List ℕ → Result ℕ Refusal → List ℕ → Type 0
Answers rs row es before reply after = (reply ≡ listed rs row es before) × (after ≡ lent rs row es before)

-- ---- how a walk writes: entry by entry, as far as there is room

-- out with an entry from byte `at` on, if it has room for it there
unfoldable pub put : List ℕ → ℕ → List ℕ → List ℕ
put out at entry = cond (ltb (length out) (at + number_bytes * length entry)) out (sets out at (row_bytes entry))

-- out with the entries from byte `at` on
unfoldable pub fill : {E : Type 0} → (E → List ℕ) → List ℕ → ℕ → List E → List ℕ
fill row out at [] = out
fill row out at (e ∷ es) = fill row (put out at (row e)) (at + number_bytes * length (row e)) es

-- what a writer of entries does: it wrote es from byte `at` on, and the next entry goes to byte next
pub record Written {E : Type 0} (row : E → List ℕ) (es : List E) (out : List ℕ) (at : ℕ) (out' : List ℕ) (at' : ℕ) : Type 0 where
  pub bytes : out' ≡ fill row out at es
  pub next : at' ≡ at + length (list_bytes row es)

-- an entry that is a row of numbers already
abbrev pub plain : List ℕ → List ℕ
plain e = e

-- what a walk does that writes these rows from a buffer's first byte on, whatever buffer it is lent
abbrev pub Walks : {W : Type 0} → Shared W (MutBor (List ℕ) × Unit {0}) (ℕ × (MutBor (List ℕ) × Unit {0})) → W → List (List ℕ) → Type 0
Walks g walk es = (p q : MutBor (List ℕ)) (n : ℕ) → g.post walk (p, tt) (n, (q, tt)) → Written plain es p.now 0 q.now n
