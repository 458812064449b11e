-- Stop once past the cursor: what stands behind the first token that starts after the offset has no part in the last token, nor in what is dotted.
-- t and u are the bytes of two tables, src those of the source, o the offset, i and p records' numbers.
-- Definitions only; the theorem is `same-past` in proofs/Past.antt.
use Rattle.std.specs.Prelude.{ℕ, ◌≤◌, ◌<◌, ◌≡◌, List, ◌⊎◌, length, Ok}
use Rattle.records.specs.Table.{count, kind_at, start_at, record_at}
use Rattle.forest.specs.Forest.{inside}
use Rattle.table.specs.Rules.{verdict}
use Rattle.table.specs.Exactly.{Node, Token}
use Rattle.tokens.specs.LastToken.{last_two, dotted}
use Rattle.tokens.specs.Function.{argument_index}

-- record i is the first token that starts after the offset, of any kind and in whatever node; where there is none, i is the count of records
pub record FirstPast (t : List ℕ) (o i : ℕ) : Type 0 where
  pub it : ((i < count t) × Token (kind_at t i) × (o < start_at t i)) ⊎ (i ≡ count t)
  pub none_before : (j : ℕ) → j < i → Token (kind_at t j) → start_at t j ≤ o

-- two tables agree up to and with record i; where there is none, they agree whole
pub record AgreeTo (i : ℕ) (t u : List ℕ) : Type 0 where
  pub same : (j : ℕ) → j ≤ i → j < count t → (j < count u) × (record_at t 0 j ≡ record_at u 0 j)
  pub whole : i ≡ count t → count u ≡ count t

-- the replies at a node, asked of the one table and of the other: the last two tokens below it, the name that is dotted, the argument's index
pub record SameReplies (src : List ℕ) (o p : ℕ) (t u : List ℕ) : Type 0 where
  pub last-token : last_two o (inside t p) ≡ last_two o (inside u p)
  pub name : dotted src (last_two o (inside t p)) ≡ dotted src (last_two o (inside u p))
  pub argument : argument_index o (inside t p) ≡ argument_index o (inside u p)

-- two admitted tables which agree up to and with that token, over the same source, give equal replies for every node that stands before it
abbrev pub SamePast : Type 0
SamePast = (src t u : List ℕ) (o i p : ℕ) → verdict t (length src) 0 ≡ Ok tt → verdict u (length src) 0 ≡ Ok tt
    → FirstPast t o i → AgreeTo i t u → p < i → Node (kind_at t p) → SameReplies src o p t u
