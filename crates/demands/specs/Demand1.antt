-- Demand 1: every tree table, source, message and offset gets an answer or a numbered refusal of document 01, or document 02's 10 or 12. A refusal is given exactly when
-- its condition holds and none before it in the order does, with its detail; then no byte of a lent buffer is touched.
-- No caller need check anything first: `ask` has no `requires`, and this is said of every table, source, message, offset, offsets, record and buffer.
-- Definitions only; it is a contract of `ask` (ask/src/lib.rt), and proofs/Stages.antt, Replies.antt and Promises.antt say why it holds.
use Rattle.std.specs.Prelude.{ℕ, ◌+◌, ◌*◌, ◌≤◌, ◌<◌, ◌≡◌, cond, List, ◌⊎◌, ◌↔◌, length, ltb, eqb}
use Rattle.records.specs.Table.{count, kind_at}
use Rattle.table.specs.Exactly.{Node, BadOffsets, Broken, place}
use Rattle.replies.specs.Reply.{packed, answered}
use Rattle.demands.specs.declared.Question.{Question}
use Rattle.demands.specs.Questions.{Asked, Named, no_one, a-root, a-record, Matter, matter, answer_of, said_bytes}

-- ---- the conditions

-- record i is no node of the table
abbrev pub NoNode : List ℕ → ℕ → Type 0
NoNode t i = i < count t → Node (kind_at t i) → ⊥

-- what a question names is not there: a root that is no node of the table, or a record that is not in it
unfoldable pub Missing : List ℕ → Named → Type 0
Missing t no_one = ⊥
Missing t (a-root i) = NoNode t i
Missing t (a-record i) = count t ≤ i

-- condition k holds with detail d: 1 to 6 and 12 of the table, the source and the message; 10 of the offsets; 8 of the record that is named; 7 of the room
-- for the list
pub data Holds (a : Asked) (m : Matter) (k d : ℕ) : Type 0 where
  of-table : Broken a.table (length a.source) m.message k d → Holds a m k d
  of-offsets : k ≡ 10 → d ≡ 0 → BadOffsets m.offsets → Holds a m k d
  of-name : k ≡ 8 → d ≡ 0 → Missing a.table m.names → Holds a m k d
  of_room : k ≡ 7 → d ≡ answer_of m.said → length a.out < length (said_bytes m.said) → Holds a m k d

-- a place among the table's conditions, where the third is left to another: 1, 2, then 4 and on
unfoldable pub past : ℕ → ℕ
past p = cond (ltb p 3) p (p + 1)

-- the place of condition k with detail d in the order, where the table has c records: 1, 2, then 10, then record by record 3, 4, 5, 12, 6, then 8, then 7
unfoldable pub place_in : ℕ → ℕ → ℕ → ℕ
place_in c k d = cond (eqb k 10) 3 (cond (eqb k 8) (5 * c + 4) (cond (eqb k 7) (5 * c + 5) (past (place k d))))

-- condition k holds with detail d, and none before it in the order does
pub record First (a : Asked) (m : Matter) (k d : ℕ) : Type 0 where
  pub holds : Holds a m k d
  pub none_before : (k' d' : ℕ) → Holds a m k' d' → place_in (count a.table) k d ≤ place_in (count a.table) k' d'

-- ---- the reply

-- it is refusal k with detail d
pub record RefusedFor (reply k d : ℕ) : Type 0 where
  pub from : 1 ≤ k
  pub to : k ≤ 12
  pub is : reply ≡ packed k d

-- it is an answer
pub record Answer (reply : ℕ) : Type 0 where
  pub said : ℕ
  pub is : reply ≡ packed answered said

-- it is a refusal
pub record Refuses (reply : ℕ) : Type 0 where
  pub number : ℕ
  pub detail : ℕ
  pub is : RefusedFor reply number detail

-- ---- the demand, of a question, what it is asked, its reply and what is in the buffer afterwards
pub record Demand1 (q : Question) (a : Asked) (reply : ℕ) (out : List ℕ) : Type 0 where
  -- it gets an answer or a numbered refusal
  pub either : Answer reply ⊎ Refuses reply
  -- a refusal is given exactly when its condition holds and none before it in the order does
  pub exactly : (k d : ℕ) → RefusedFor reply k d ↔ First a (matter q a) k d
  -- then no byte of the lent buffer is touched
  pub kept : (k d : ℕ) → RefusedFor reply k d → out ≡ a.out
