-- Everything at a cursor in one call: exactly what the six single questions give over the same table, source and offset, each list in the buffer that it
-- has in the call. src is the source's bytes, t the table's, o the offset.
-- Definitions only. `AtOnce` is a contract of `ask_at_once` (at_once/src/lib.rt), and proofs/AtOnce.antt says why it holds: by the promise of the call and the demands of
-- the single questions alone.
use Rattle.std.specs.Prelude.{ℕ, ◌/◌, ◌≤◌, ◌<◌, ◌≡◌, List, [], ◌++◌, ◌⊎◌, length, take, drop}
use Rattle.lent.specs.Numbers.{le4}
use Rattle.contexts.specs.Context.{context_bytes}
use Rattle.replies.specs.Reply.{half}
use Rattle.everything.specs.Everything.{Buffers}
use Rattle.rooms.specs.Rooms.{everything_bytes}
use Rattle.demands.specs.declared.Question.{Question}
use Rattle.demands.specs.declared.Question.TheVariants.{CursorContext, CursorRoot, WithNamesAt, TableAliasesAt, ColumnAliasesAt, TableRefsAt}
use Rattle.demands.specs.Questions.{asked}
use Rattle.demands.specs.Demand1.{Answer, RefusedFor, Refuses}
use Rattle.demands.specs.Demand2.{Meets}

-- a single question over the table, the source and the offset, in a buffer: its reply, and what is in the buffer afterwards
pub record Single (q : Question) (src t : List ℕ) (o : ℕ) (buffer : List ℕ) : Type 0 where
  pub reply : ℕ
  pub out : List ℕ
  pub met : Meets q (asked t src [] o [] 0 buffer) reply out

-- the six of them
pub record Singles (src t : List ℕ) (o : ℕ) (b : Buffers) : Type 0 where
  pub context : Single CursorContext src t o b.entry
  pub root : Single CursorRoot src t o []
  pub names : Single WithNamesAt src t o b.names
  pub aliases : Single TableAliasesAt src t o b.aliases
  pub columns : Single ColumnAliasesAt src t o b.columns
  pub refs : Single TableRefsAt src t o b.refs

-- the answer that a reply tells: its high half
abbrev pub answer_in : ℕ → ℕ
answer_in reply = reply / half

module _ {src t : List ℕ} {o : ℕ} {b : Buffers} (s : Singles src t o b) where
  -- all six are answered, and their bytes are in the call's buffers; the entry has the context's bytes, then the root and the counts, and the bytes behind it are kept
  pub record Together (after : Buffers) : Type 0 where
    pub root : Answer s.root.reply
    pub context : Answer s.context.reply
    pub lists : Answer s.names.reply × Answer s.aliases.reply × Answer s.columns.reply × Answer s.refs.reply
    pub entry : after.entry
        ≡ take context_bytes s.context.out
        ++ le4 (answer_in s.root.reply)
        ++ le4 (answer_in s.names.reply)
        ++ le4 (answer_in s.aliases.reply)
        ++ le4 (answer_in s.columns.reply)
        ++ le4 (answer_in s.refs.reply)
        ++ drop everything_bytes b.entry
    pub names : after.names ≡ s.names.out
    pub aliases : after.aliases ≡ s.aliases.out
    pub columns : after.columns ≡ s.columns.out
    pub refs : after.refs ≡ s.refs.out

  -- refusal k with detail d is that of all six; or it is 7, for the entry or for the first list that is refused so
  pub data FirstRefused (k d : ℕ) : Type 0 where
    every : RefusedFor s.context.reply k d → RefusedFor s.root.reply k d → RefusedFor s.names.reply k d → RefusedFor s.aliases.reply k d
        → RefusedFor s.columns.reply k d → RefusedFor s.refs.reply k d → FirstRefused k d
    of_entry : k ≡ 7 → d ≡ 1 → Answer s.root.reply → length b.entry < everything_bytes → FirstRefused k d
    of-names : k ≡ 7 → everything_bytes ≤ length b.entry → RefusedFor s.names.reply k d → FirstRefused k d
    of-aliases : k ≡ 7 → everything_bytes ≤ length b.entry → Answer s.names.reply → RefusedFor s.aliases.reply k d → FirstRefused k d
    of-columns : k ≡ 7 → everything_bytes ≤ length b.entry → Answer s.names.reply → Answer s.aliases.reply → RefusedFor s.columns.reply k d
        → FirstRefused k d
    of_refs : k ≡ 7 → everything_bytes ≤ length b.entry → Answer s.names.reply → Answer s.aliases.reply → Answer s.columns.reply
        → RefusedFor s.refs.reply k d → FirstRefused k d

-- the call's reply and buffers beside those of any six single questions that meet the demands: it is answered as they are, or refused as they are
abbrev pub AtOnce : List ℕ → List ℕ → ℕ → Buffers → ℕ → Buffers → Type 0
AtOnce src t o before reply after = (s : Singles src t o before)
    → (Answer reply ⊎ Refuses reply) × (Answer reply → Together s after) × ((k d : ℕ) → RefusedFor reply k d → FirstRefused s k d × (after ≡ before))
