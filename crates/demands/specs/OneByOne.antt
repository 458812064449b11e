-- All cursors of a shared page: one call with a list of offsets gives what as many single calls give, one by one.
-- a is what the call is asked, `reply` and `out` its reply and its buffer afterwards.
-- Definitions only; the theorem is `one_by_one` in proofs/OneByOne.antt, over the promises of the two questions alone.
use Rattle.std.specs.Prelude.{ℕ, ◌*◌, ◌≤◌, ◌<◌, ◌≡◌, List, length, get_or, take, drop}
use Rattle.replies.specs.Reply.{packed, answered}
use Rattle.contexts.specs.Context.{context_bytes}
use Rattle.cursors.specs.Cursors.{offsets_of}
use Rattle.demands.specs.declared.Question.TheVariants.{CursorContext, CursorContexts}
use Rattle.demands.specs.Questions.{Asked}
use Rattle.demands.specs.Demand1.{Answer, RefusedFor}
use Rattle.demands.specs.Demand2.{Meets}

-- the bytes of entry i
abbrev pub entry_at : ℕ → List ℕ → List ℕ
entry_at i out = take context_bytes (drop (context_bytes * i) out)

-- b asks singly at the i-th of a's offsets, over the same table and source, in any buffer that has room for the entry
pub record SinglyAt (a : Asked) (i : ℕ) (b : Asked) : Type 0 where
  pub table : b.table ≡ a.table
  pub source : b.source ≡ a.source
  pub offset : b.offset ≡ get_or (offsets_of a.offsets) i 0
  pub room : context_bytes ≤ length b.out

-- where the call is answered, there are as many entries as offsets, and each single call is answered with what stands in its place
pub record Alike (a : Asked) (reply : ℕ) (out : List ℕ) : Type 0 where
  pub many : reply ≡ packed answered (length (offsets_of a.offsets))
  pub single : (i : ℕ) → i < length (offsets_of a.offsets) → (b : Asked) → SinglyAt a i b → (reply' : ℕ) (out' : List ℕ) → Meets CursorContext b reply' out'
      → (reply' ≡ packed answered 1) × (entry_at 0 out' ≡ entry_at i out)

-- where it is refused, it is for the offsets or for the room, or each single call is refused with the same number and detail
abbrev pub RefusedAlike : Asked → ℕ → ℕ → Type 0
RefusedAlike a k d = (k ≡ 10 → ⊥) → (k ≡ 7 → ⊥) → (i : ℕ) (b : Asked) → SinglyAt a i b → (reply' : ℕ) (out' : List ℕ) → Meets CursorContext b reply' out' → RefusedFor reply' k d

abbrev pub OneByOne : Type 0
OneByOne = (a : Asked) (reply : ℕ) (out : List ℕ) → Meets CursorContexts a reply out
    → (Answer reply → Alike a reply out) × ((k d : ℕ) → RefusedFor reply k d → RefusedAlike a k d)
