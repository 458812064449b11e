-- Numbers: on an admitted table every number of an entry, a record, a count fits 32 bits. So four bytes hold each whole, and the halves of a reply tell truly what
-- was said.
-- Definitions only. `Numbers` is a contract of `ask` (ask/src/lib.rt), as demands 1 and 2 are: that the table's numbers are bytes is known of what it is lent, so no
-- caller need check it. proofs/Numbers.antt cites the law of each list; `entry-fits` there is of everything at a cursor.
use Rattle.std.specs.Prelude.{ℕ, ◌*◌, ◌<◌, ◌≡◌, List, length}
use Rattle.lent.specs.Numbers.{word_limit}
use Rattle.lent.specs.Fit32.{Fit32, AllFit32}
use Rattle.table.specs.Exactly.{Broken}
use Rattle.everything.specs.Everything.{everything_row}
use Rattle.replies.specs.Reply.{half}
use Rattle.demands.specs.declared.Question.{Question}
use Rattle.demands.specs.Questions.{Asked, Said, number, rows, Matter, matter}
use Rattle.demands.specs.Demand1.{Holds}

-- the table is admitted, and the offsets and the record that is named are good: only the room for the list may be wanting
abbrev pub Admits : Asked → Matter → Type 0
Admits a m = (k d : ℕ) → Holds a m k d → k ≡ 7

-- a number, which is a record or none, fits; or every number of every entry does, and how many entries there are
unfoldable pub SaidFits : Said → Type 0
SaidFits (number n) = n < word_limit
SaidFits (rows rs) = AllFit32 (λ r. r) rs × (length rs < word_limit)

-- of a question, what it is asked and its reply
pub record Numbers (q : Question) (a : Asked) (reply : ℕ) : Type 0 where
  -- on an admitted table every number of an entry, a record, a count fits 32 bits
  pub fits : Admits a (matter q a) → SaidFits (matter q a).said
  -- and the reply is two halves of 32 bits
  pub whole : reply < half * half

-- everything at a cursor: every number of its entry, the context's, the root, how many entries each list has
abbrev pub EntryFits : List ℕ → List ℕ → ℕ → Type 0
EntryFits src t o = ((k d : ℕ) → Broken t (length src) 0 k d → ⊥) → Fit32 (everything_row src t o)
