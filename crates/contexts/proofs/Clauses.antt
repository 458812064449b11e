-- The last clause of a statement.
-- Assumes nothing.
use Prim.Native.Nat.{ℕ, ◌+◌, ◌*◌, ◌≤◌, ◌<◌}
use mathlib.Core.Path.{◌≡◌, ap, ◌∙◌}
use mathlib.Core.Logic.{⊎_elim}
use mathlib.Core.List.{List}
use borrow.Author.Tests.{le-leb, lt-leb, lt-ltb, le-ltb}
use lib.ListN.{drop}
use Rattle.std.specs.Prelude.{Option, None, Some}
use Rattle.records.specs.Kinds.{last_node}
use Rattle.records.specs.Table.{record_bytes, count, kind_at, record_at, records}
use Rattle.forest.specs.Forest.{kids, Child}
use Rattle.forest.proofs.Walks.{walk_here, walk-at-node, walk-on}
use Rattle.forest.proofs.Laws.{node-or-token}
use Rattle.contexts.specs.declared.context.CursorContext.{CursorContext}
use Rattle.contexts.specs.declared.trailing.Clause.{Clause}
use Rattle.contexts.specs.Trailing.{last_clause, past_clause, past_end}
use Rattle.contexts.specs.inner.ByNumber.{clause_at, trailing_from}
use Rattle.forest.proofs.Walking.{rest-inside, Walks, walks-none, walks-start, walks-end}

-- the loop at record i, where best is the last clause so far
pub record Seeks (o : ℕ) (s : List ℕ) (i : ℕ) (best : Option Clause) : Type 0 where
  pub left : Walks s i (last_clause o best) (last_clause o None)

pub clause-none : (o : ℕ) (s : List ℕ) → count s ≡ 0 → (base : ℕ) → None ≡ last_clause o None (kids (records base s))
unfolding last_clause
clause-none o s h base = walks-none s (last_clause o None) h base

pub clause-start : (o : ℕ) (s : List ℕ) {i : ℕ} → 0 < count s → Child s 1 i → Seeks o s i None
clause-start o s h c = record { left = walks-start s (last_clause o None) h c }

module _ {o : ℕ} {s : List ℕ} {i : ℕ} {best : Option Clause} (v : Seeks o s i best) where
  pub clause-end : count s ≤ i → (base : ℕ) → best ≡ last_clause o None (kids (records base s))
  unfolding last_clause
  clause-end h = walks-end v.left h

  pub clause-next : {r : ℕ} {best' : Option Clause} → i < count s → best' ≡ clause_at s i o best → Child s (i + 1) r → Seeks o s r best'
  unfolding last_clause clause_at record_at
  clause-next h e c =
      let w = v.left in
      record {
        left = record {
          at = λ base.
              ⊎_elim
              (λ g. walk-on (w.at base) h (rw (e, le-leb (kind_at s i) last_node g) (walk-at-node (w.at base) h g)) c)
              (λ g. walk-on (w.at base) h (rw (e, lt-leb (kind_at s i) last_node g) (walk_here (w.at base) h g)) c)
              (node-or-token (kind_at s i));
        };
      }

-- ---- the rule, by what the last clause is

module _ (o : ℕ) {cl : Option Clause} where
  pub past-none : cl ≡ None → None ≡ past_end o cl
  unfolding past_end
  past-none e = rw e

  pub past-over : {c : Clause} {x : Option CursorContext} → cl ≡ Some c → c.end < o → x ≡ past_clause c.kind → x ≡ past_end o cl
  unfolding past_end
  past-over {c} q h p = rw (q, lt-ltb c.end o h) p

  pub past-not : {c : Clause} → cl ≡ Some c → o ≤ c.end → None ≡ past_end o cl
  unfolding past_end
  past-not {c} q h = rw (q, le-ltb c.end o h)

-- p is the rest of the table from the statement n on
pub trailed : (t : List ℕ) (o n : ℕ) {p : List ℕ} {cl : Option Clause} {x : Option CursorContext} → p ≡ drop (record_bytes * n) t
    → ((base : ℕ) → cl ≡ last_clause o None (kids (records base p))) → x ≡ past_end o cl → x ≡ trailing_from t o (Some n)
unfolding trailing_from
trailed t o n e q a = a ∙ ap (past_end o) ((rw e at (q n)) ∙ ap (last_clause o None) (rest-inside t n))
