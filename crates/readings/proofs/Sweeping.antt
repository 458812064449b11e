-- The sweep over tokens, for whatever is sought, and what it finds: the last two of them, the index of an argument.
-- Assumes nothing.
use Prim.Native.Nat.{ℕ, ◌+◌, ◌≤◌, ◌<◌}
use mathlib.Core.Path.{◌≡◌, refl, sym, ◌∙◌}
use mathlib.Core.Bool.{Bool, true, false, cond}
use mathlib.Core.List.{List, [], ◌∷◌}
use native.Mathlib.Omega.{arith}
use borrow.Author.Tests.{leb-true, leb-false}
use Rattle.std.specs.Prelude.{Option, None, Some, IfSome}
use Rattle.records.specs.declared.range.Range.{Range}
use Rattle.records.specs.declared.record.Rec.{Rec}
use Rattle.records.specs.Kinds.{is_node, last_node}
use Rattle.records.specs.Table.{count, kind_at, depth_at, start_at, end_at, record_at, records}
use Rattle.forest.specs.Forest.{Forest, kids}
use Rattle.forest.specs.inner.Scan.{Reading, of_tokens}
use Rattle.forest.specs.Descent.{along}
use Rattle.forest.proofs.Scans.{tokens_none, tokens-start}
use Rattle.forest.proofs.Walking.{Sweeps, sweeps-token, sweeps-node}
use Rattle.tokens.specs.declared.last_token.LastTwo.{LastTwo}
use Rattle.tokens.specs.declared.sought.Sought.{Sought}
use Rattle.tokens.specs.declared.sought.Sought.TheVariants.{LastToken, ArgumentIndex}
use Rattle.tokens.specs.declared.sought.Swept.{Swept}
use Rattle.tokens.specs.LastToken.{named, reading, last_or, init, last_two}
use Rattle.tokens.specs.Function.{argued, arguments}
use Rattle.tokens.specs.inner.Turns.{pushed, Findings, counts_for, enters_for, turned, nothing_found, swept, name_at, token_of, meant, moved_to}

-- ---- the sweep, for whatever is sought

abbrev step : Sought → Findings → Rec → Findings
step x w r = turned x w r.kind r.start r.end

unfoldable pub seeking : Sought → ℕ → Reading Findings
seeking x o = of_tokens (step x) (λ r. counts_for x o r.kind r.start) (λ r. enters_for x o r.kind r.start r.end)

-- the loop at record i
pub record Reads (x : Sought) (o : ℕ) (t : List ℕ) (k m i : ℕ) (w : Findings) : Type 0 where
  pub left : Sweeps (seeking x o) t k m i w (swept x o)

module _ (x : Sought) (o : ℕ) (t : List ℕ) where
  pub swept_none : count t ≡ 0 → (base : ℕ) → nothing_found ≡ swept x o (kids (records base t))
  unfolding swept
  swept_none h base = tokens_none (step x) _ _ t base nothing_found h

  pub swept-start : {k : ℕ} {w : Findings} → 0 < count t → k ≡ depth_at t 0 + 1 → w ≡ nothing_found → Reads x o t k k 1 w
  unfolding swept seeking
  swept-start h e q = rw q (record { left = record { at = λ base. tokens-start (step x) _ _ t base nothing_found h e } })

module _ {x : Sought} {o : ℕ} {t : List ℕ} {k m i : ℕ} {w : Findings} (l : Reads x o t k m i w) (h : i < count t) (kd : k ≤ depth_at t i)
    {kind start end d : ℕ} {n : Bool} (dm : d ≤ m) (ed : d ≡ depth_at t i) (ek : kind ≡ kind_at t i) (es : start ≡ start_at t i) (ee : end ≡ end_at t i)
    (en : n ≡ is_node kind) where
  pub swept-token : {w' : Findings} → n ≡ false → w' ≡ cond (counts_for x o kind start) (turned x w kind start end) w
      → Reads x o t k d (i + 1) w'
  unfolding record_at seeking
  swept-token g q =
      record { left = sweeps-token l.left h kd (rw (← ed) dm) (rw (← ek) (leb-false kind last_node (sym en ∙ g))) ed (λ base. rw (← ek, ← es, ← ee) q) }

  pub swept-node : {into : Bool} {m' : ℕ} → n ≡ true → into ≡ enters_for x o kind start end → m' ≡ cond into (d + 1) d
      → Reads x o t k m' (i + 1) w
  unfolding record_at seeking
  swept-node {into} g p q =
      record {
        left = sweeps-node l.left h kd (rw (← ed) dm) into (rw (← ek) (leb-true kind last_node (sym en ∙ g))) (λ base. rw (← ek, ← es, ← ee, ← p)) (rw (← ed) q) (λ base. refl);
      }

-- ---- the numbers that the loop carries

-- a number that there may be, among more
pub among-more : (o : Option ℕ) {a b : ℕ} → a ≤ b → IfSome o (λ n. n < a) → IfSome o (λ n. n < b)
among-more None h p = tt
among-more (Some n) h p = omega arith

-- and one up to a number
pub up-to : (o : Option ℕ) (a : ℕ) → IfSome o (λ n. n ≤ a) → IfSome o (λ n. n < a + 1)
up-to None a p = tt
up-to (Some n) a p = omega arith

pub meant-nothing : (t : List ℕ) {w : Swept} → w ≡ record { last = None; before = None; arguments = None } → meant t w ≡ nothing_found
unfolding meant token_of
meant-nothing t e = rw e

moved : (x : Sought) (t : List ℕ) (i : ℕ) (w : Swept) (kind : ℕ) → meant t (moved_to x w kind i) ≡ turned x (meant t w) kind (start_at t i) (end_at t i)
unfolding meant token_of name_at moved_to turned
moved LastToken t i w kind = refl
moved ArgumentIndex t i w kind = refl

pub meant-turn : (x : Sought) (o : ℕ) (t : List ℕ) (i : ℕ) (w : Swept) (kind : ℕ) {start : ℕ} {w' : Swept} → start ≡ start_at t i
    → w' ≡ cond (counts_for x o kind start) (moved_to x w kind i) w
    → meant t w' ≡ cond (counts_for x o kind start) (turned x (meant t w) kind start (end_at t i)) (meant t w)
meant-turn x o t i w kind e q = rw (q, e) (go (counts_for x o kind (start_at t i)))
  where
    go : (b : Bool) → meant t (cond b (moved_to x w kind i) w) ≡ cond b (turned x (meant t w) kind (start_at t i) (end_at t i)) (meant t w)
    go true = moved x t i w kind
    go false = refl

-- ---- the last two tokens

abbrev next : LastTwo → Rec → LastTwo
next two r = pushed two r.start r.end

two_from : (l : List Rec) (r : Rec) (b : Option Range) → along next (record { last = named r; before = b }) l ≡ record { last = last_or (named r) l; before = last_or b (init (r ∷ l)) }
unfolding along last_or init
two_from [] r b = refl
two_from (q ∷ l) r b = two_from l q (named r)

two-along : (l : List Rec) → along next nothing_found.two l ≡ record { last = last_or None l; before = last_or None (init l) }
unfolding along last_or init
two-along [] = refl
two-along (r ∷ l) = two_from l r None

along-two : (l : List Rec) (w : Findings) → (along (step LastToken) w l).two ≡ along next w.two l
unfolding along turned
along-two [] w = refl
along-two (r ∷ l) w = along-two l _

pub swept-two : (o : ℕ) (f : Forest) → (swept LastToken o f).two ≡ last_two o f
unfolding swept counts_for enters_for last_two
swept-two o f = along-two (reading o f) nothing_found ∙ two-along (reading o f)

-- ---- the argument's index

along-arguments : (l : List Rec) (w : Findings) → (along (step ArgumentIndex) w l).arguments ≡ along (λ a r. argued a r.kind) w.arguments l
unfolding along turned
along-arguments [] w = refl
along-arguments (r ∷ l) w = along-arguments l _

pub swept-arguments : (o : ℕ) (f : Forest) → (swept ArgumentIndex o f).arguments ≡ arguments o f
unfolding swept counts_for enters_for arguments
swept-arguments o f = along-arguments _ nothing_found
