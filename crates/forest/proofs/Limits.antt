-- The tree of an admitted table keeps document 01's limits, and a reading of it has no more steps than the table has records.
--     admitted-limited, stretch-limited    what is inside a record, and in its stretch
--     stretch-fits                         the same with the spans of nodes, which are read of bytes
--     stretch-size                         how many records there are below one
--     reached-few                          what a reading of tokens counts
-- Assumes nothing.
use Prim.Native.Nat.{ℕ, zero, suc, ◌+◌, ◌-◌, ◌≤◌, ◌<◌}
use mathlib.Core.Path.{◌≡◌, refl, sym, ap, ◌∙◌}
use mathlib.Core.Bool.{Bool, true, false, cond}
use mathlib.Core.List.{List, [], ◌∷◌, ◌++◌}
use mathlib.Core.Logic.{⊎_elim}
use native.Mathlib.Omega.{arith}
use native.Mathlib.Nat.{zero-add}
use lib.Dec.{ltb}
use lib.ListN.{length}
use Rattle.std.specs.Prelude.{Ok}
use Rattle.records.specs.declared.record.Rec.{Rec}
use Rattle.records.specs.Kinds.{is_node, last_node}
use Rattle.records.specs.Table.{count, kind_at, depth_at, record_at, run, from, records, part}
use Rattle.conditions.specs.Conditions.{most_records}
use Rattle.table.specs.Rules.{verdict}
use Rattle.table.specs.Exactly.{Token}
use Rattle.lent.specs.Numbers.{OfBytes}
use Rattle.lent.proofs.Cases.{lt-or-le}
use Rattle.lent.proofs.Fit32.{word_fits}
use Rattle.forest.specs.Forest.{Forest, nil, token, node, level, kids, inside, stretch_end}
use Rattle.forest.specs.Sense.{Tidy}
use Rattle.forest.specs.Tokens.{tokens_of, only, reached}
use Rattle.forest.specs.Descent.{along}
use Rattle.forest.specs.inner.Scan.{Reading, fold, of_tokens}
use Rattle.forest.proofs.Laws.{node-or-token, level-shallow, level-deep, level-token, level-node, from_end, from_cons, kids-tail}
use Rattle.forest.proofs.Sense.{admitted-tidy}
use Rattle.forest.proofs.Scans.{sweep, sweep-fold, fold-tokens}
use Rattle.forest.proofs.Walking.{rest-inside}
use Rattle.forest.specs.Limits.{WithinSource, AllWithinSource, Limited, SpansFit, size}

-- ---- the limits

-- what is true of every tree whose records are the table's own
module _ (t : List ℕ) (P : Forest → Type 0) (none : P nil)
    (at-token : (i : ℕ) → i < count t → last_node < kind_at t i → (rest : Forest) → P rest → P (token (record_at t 0 i) rest))
    (at-node : (i : ℕ) → i < count t → (below rest : Forest) → P below → P rest → P (node (record_at t 0 i) below rest)) where
  level_all : (c i k : ℕ) → i + c ≤ count t → P (level k (run t 0 i c))
  unfolding run level
  level_all zero i k h = none
  level_all (suc c) i k h =
      ⊎_elim
      (λ d. rw (level-shallow k (record_at t 0 i) (run t 0 (i + 1) c) d) none)
      (λ (d : k ≤ (record_at t 0 i).depth).
      ⊎_elim
      (λ g. rw (level-deep k (record_at t 0 i) (run t 0 (i + 1) c) g) (level_all c (i + 1) k (omega arith)))
      (λ (g : (record_at t 0 i).depth ≤ k).
      ⊎_elim
      (λ l.
      rw (level-node k (record_at t 0 i) (run t 0 (i + 1) c) (omega arith) l)
      (at-node i (omega arith) _ _ (level_all c (i + 1) (k + 1) (omega arith)) (level_all c (i + 1) k (omega arith))))
      (λ l.
      rw (level-token k (record_at t 0 i) (run t 0 (i + 1) c) (omega arith) l)
      (at-token i (omega arith) (unfold record_at in l) _ (level_all c (i + 1) k (omega arith))))
      (node-or-token (record_at t 0 i).kind))
      (lt-or-le k (record_at t 0 i).depth))
      (lt-or-le (record_at t 0 i).depth k)

  inside-all : (i : ℕ) → P (inside t i)
  unfolding kids
  inside-all i =
      ⊎_elim
      (λ h. rw (from_cons t 0 i h) (unfold from in level_all (count t - (i + 1)) (i + 1) ((record_at t 0 i).depth + 1) (omega arith)))
      (λ h. rw (from_end t 0 i h) none)
      (lt-or-le i (count t))

-- the limits with the spans of nodes
abbrev pub Fitting : Forest → Type 0
Fitting f = Limited f × SpansFit f

-- what is true of a tree is true of its parts
pub record Inherited (P : Forest → Type 0) : Type 0 where
  pub behind-token : {r : Rec} {rest : Forest} → P (token r rest) → P rest
  pub below : {r : Rec} {inner rest : Forest} → P (node r inner rest) → P inner
  pub behind-node : {r : Rec} {inner rest : Forest} → P (node r inner rest) → P rest

-- what is below a record, in the part of the table that is its stretch
stretch-inside : (t : List ℕ) (i : ℕ) → i < count t → kids (records i (part t i (stretch_end t i))) ≡ inside t i
stretch-inside t i h = sym (rw (zero-add i) at (kids-tail t 0 (depth_at t i) i h refl)) ∙ rest-inside t i

module _ {t : List ℕ} {n : ℕ} (y : Tidy t n) where
  near : (i : ℕ) → i < count t → last_node < kind_at t i → WithinSource (record_at t 0 i)
  unfolding record_at
  near i h k = ⊎_elim (λ a. absurd (omega arith)) (λ (a : Token (kind_at t i)). let s = y.spans i h a in omega (arith, s, y.short)) (y.kinds i h)

  few : (i : ℕ) → i < count t → (record_at t 0 i).index < most_records
  unfolding record_at
  few i h = omega (arith, y.few)

  pub inside-limited : (i : ℕ) → Limited (inside t i)
  unfolding Limited
  inside-limited = inside-all t Limited tt (λ i h k rest w. ((few i h, near i h k), w)) (λ i h below rest v w. (few i h, v, w))

  pub stretch-limited : (i : ℕ) → i < count t → Limited (kids (records i (part t i (stretch_end t i))))
  stretch-limited i h = rw (stretch-inside t i h) (inside-limited i)

  -- with the spans of nodes, where the table's bytes are bytes
  pub stretch-fits : OfBytes t → (i : ℕ) → i < count t → Fitting (kids (records i (part t i (stretch_end t i))))
  unfolding SpansFit record_at
  stretch-fits b i h =
      (stretch-limited i h, rw (stretch-inside t i h) (inside-all t SpansFit tt (λ j g k rest w. w) (λ j g below rest v w. ((word_fits t _ b, word_fits t _ b), v, w)) i))

pub limited-inherited : Inherited Limited
unfolding Limited
limited-inherited = record { behind-token = λ w. w.1; below = λ w. w.1; behind-node = λ w. w.2 }

pub fitting-inherited : Inherited Fitting
unfolding Limited SpansFit
fitting-inherited = record { behind-token = λ w. (w.0.1, w.1); below = λ w. (w.0.1, w.1.1); behind-node = λ w. (w.0.2, w.1.2) }

pub admitted-limited : (t : List ℕ) (n m : ℕ) → Ok tt ≡ verdict t n m → (i : ℕ) → Limited (inside t i)
admitted-limited t n m a = inside-limited (admitted-tidy t n m (sym a))

-- ---- the tokens that a reading reaches

pub near-chosen : (b : Bool) (r : Rec) (rs : List Rec) → WithinSource r → AllWithinSource rs → AllWithinSource (cond b (r ∷ rs) rs)
unfolding AllWithinSource
near-chosen true r rs h w = (h, w)
near-chosen false r rs h w = w

near-append : (xs ys : List Rec) → AllWithinSource xs → AllWithinSource ys → AllWithinSource (xs ++ ys)
unfolding AllWithinSource
near-append [] ys p q = q
near-append (x ∷ xs) ys p q = (p.0, near-append xs ys p.1 q)

tokens-near : (enters : Rec → Bool) (f : Forest) → Limited f → AllWithinSource (tokens_of enters f)
unfolding tokens_of Limited AllWithinSource
tokens-near enters nil w = tt
tokens-near enters (token r rest) w = (w.0.1, tokens-near enters rest w.1)
tokens-near enters (node r below rest) w = near-append (cond (enters r) (tokens_of enters below) []) (tokens_of enters rest) (go (enters r) (tokens-near enters below w.1)) (tokens-near enters rest w.2)
  where
    go : (b : Bool) → AllWithinSource (tokens_of enters below) → AllWithinSource (cond b (tokens_of enters below) [])
    go true h = h
    go false h = tt

only-near : (counts : Rec → Bool) (rs : List Rec) → AllWithinSource rs → AllWithinSource (only counts rs)
unfolding only AllWithinSource
only-near counts [] w = tt
only-near counts (r ∷ rs) w = near-chosen (counts r) r (only counts rs) w.0 (only-near counts rs w.1)

pub reached-near : (counts enters : Rec → Bool) (f : Forest) → Limited f → AllWithinSource (reached counts enters f)
reached-near counts enters f w = only-near counts (tokens_of enters f) (tokens-near enters f w)

-- ---- how many steps

-- what a step makes larger by one at most is larger by the count of the records at most
module _ {S : Type 0} (R : Reading S) (known : S → ℕ) (at-token : (s : S) (r : Rec) → known (R.at_token s r) ≤ known s + 1) (at-node : (s : S) (r : Rec) → known (R.at_node s r) ≤ known s + 1) where
  sweep-few : (rs : List Rec) (k m : ℕ) (s : S) → known (sweep R k m s rs) ≤ known s + length rs
  unfolding sweep
  sweep-few [] k m s = omega arith
  sweep-few (r ∷ rs) k m s =
      go (ltb r.depth k) (ltb m r.depth) (is_node r.kind) (R.enters s r) (sweep-few rs k m s) (sweep-few rs k r.depth (R.at_token s r))
      (λ j. sweep-few rs k j (R.at_node s r))
    where
      go : (a b c d : Bool) → known (sweep R k m s rs) ≤ known s + length rs
          → known (sweep R k r.depth (R.at_token s r) rs) ≤ known (R.at_token s r) + length rs
          → ((j : ℕ) → known (sweep R k j (R.at_node s r) rs) ≤ known (R.at_node s r) + length rs)
          → known (cond a s (cond b (sweep R k m s rs) (cond c (cond d (sweep R k (r.depth + 1) (R.at_node s r) rs) (sweep R k r.depth (R.at_node s r) rs)) (sweep R k r.depth (R.at_token s r) rs))))
          ≤ known s + suc (length rs)
      go true b c d over on into = omega arith
      go false true c d over on into = omega arith
      go false false true true over on into = omega (arith, into (r.depth + 1), at-node s r)
      go false false true false over on into = omega (arith, into r.depth, at-node s r)
      go false false false d over on into = omega (arith, at-token s r)

pub run_length : (t : List ℕ) (base i n : ℕ) → length (run t base i n) ≡ n
unfolding run
run_length t base i zero = refl
run_length t base i (suc n) = ap suc (run_length t base (i + 1) n)

-- all records: a node with what is below it
abbrev counting : Reading ℕ
counting = record { at_token = λ n r. n + 1; at_node = λ n r. n + 1; enters = λ n r. true }

counted : (f : Forest) (n : ℕ) → fold counting n f ≡ n + size f
unfolding fold size
counted nil n = omega arith
counted (token r rest) n = omega (arith, counted rest (n + 1))
counted (node r below rest) n = rw (counted below (n + 1)) (omega (arith, counted rest (n + 1 + size below)))

level-size : (k : ℕ) (rs : List Rec) → size (level k rs) ≤ length rs
level-size k rs = omega (arith, counted (level k rs) 0, sweep-fold counting k 0 rs, sweep-few counting (λ n. n) (λ n r. omega arith) (λ n r. omega arith) rs k k 0)

pub inside-size : (t : List ℕ) (i : ℕ) → i < count t → size (inside t i) < count t
unfolding kids
inside-size t i h = rw (from_cons t 0 i h) (unfold from in omega (arith, level-size ((record_at t 0 i).depth + 1) (run t 0 (i + 1) (count t - (i + 1))), run_length t 0 (i + 1) (count t - (i + 1))))

pub stretch-size : (t : List ℕ) (i : ℕ) → i < count t → size (kids (records i (part t i (stretch_end t i)))) < count t
stretch-size t i h = rw (stretch-inside t i h) (inside-size t i h)

-- a reading of the tokens inside a record, where each makes what is known larger by one at most
module _ {S : Type 0} (step : S → Rec → S) (known : S → ℕ) (turn : (s : S) (r : Rec) → known (step s r) ≤ known s + 1) (counts enters : Rec → Bool) where
  kids-few : (rs : List Rec) (s : S) → known (along step s (reached counts enters (kids rs))) ≤ known s + length rs
  unfolding kids
  kids-few [] s = rw (← fold-tokens step counts enters nil s) (unfold fold in omega arith)
  kids-few (r ∷ rs) s =
      rw (← fold-tokens step counts enters (level (r.depth + 1) rs) s, ← sweep-fold (of_tokens step counts enters) (r.depth + 1) s rs)
      (omega (arith, sweep-few (of_tokens step counts enters) known at-token (λ x q. omega arith) rs (r.depth + 1) (r.depth + 1) s))
    where
      at-token : (x : S) (q : Rec) → known (cond (counts q) (step x q) x) ≤ known x + 1
      at-token x q = go (counts q)
        where
          go : (b : Bool) → known (cond b (step x q) x) ≤ known x + 1
          go true = turn x q
          go false = omega arith

  pub reached-few : (t : List ℕ) (i : ℕ) (s : S) → known (along step s (reached counts enters (inside t i))) ≤ known s + count t
  unfolding from
  reached-few t i s = omega (arith, kids-few (run t 0 i (count t - i)) s, run_length t 0 i (count t - i))
