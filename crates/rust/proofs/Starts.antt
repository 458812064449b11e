-- The trees of an admitted table as the Rust's loops meet them.
--     Rises, inside-rises      behind a token, no token among its later siblings and below them starts earlier: so a loop may return there
--     Rooted, inside-rooted    what is below a node is what the table has inside it
--     inside-all               one law for what is so of every level of a table's tree
--     fold-late                a reading of tokens that counts none of them changes nothing
-- Assumes nothing.
use Prim.Native.Nat.{ℕ, zero, suc, ◌+◌, ◌-◌, ◌≤◌, ◌<◌}
use mathlib.Core.Path.{◌≡◌, refl, sym, ap, ◌∙◌}
use mathlib.Core.Bool.{Bool, true, false, cond}
use mathlib.Core.List.{List}
use mathlib.Core.Logic.{⊎_elim}
use native.Mathlib.Omega.{arith}
use native.Mathlib.Nat.{zero-add}
use Rattle.records.specs.declared.record.Rec.{Rec}
use Rattle.records.specs.Kinds.{last_node}
use Rattle.records.specs.Table.{count, kind_at, depth_at, start_at, record_at, run, from}
use Rattle.forest.specs.Forest.{Forest, nil, token, node, level, kids, inside}
use Rattle.forest.specs.Sense.{Tidy}
use Rattle.forest.specs.inner.Scan.{fold, of_tokens}
use Rattle.forest.proofs.Orders.{tidy-ordered}
use Rattle.lent.proofs.Cases.{lt-or-le}
use Rattle.forest.proofs.Laws.{node-or-token, level-shallow, level-deep, level-token, level-node, from_cons, from_end}

-- every token among siblings and below them starts at b or later
unfoldable pub Since : ℕ → Forest → Type 0
Since b nil = Unit
Since b (token r rest) = (b ≤ r.start) × Since b rest
Since b (node r below rest) = Since b below × Since b rest

unfoldable pub Rises : Forest → Type 0
Rises nil = Unit
Rises (token r rest) = Since r.start rest × Rises rest
Rises (node r below rest) = Rises below × Rises rest

-- a reading of tokens that counts none of them
module _ {S : Type 0} (step : S → Rec → S) (counts enters : Rec → Bool) (b : ℕ) (late : (r : Rec) → b ≤ r.start → counts r ≡ false) where
  pub fold-late : (f : Forest) (s : S) → Since b f → fold (of_tokens step counts enters) s f ≡ s
  unfolding fold Since
  fold-late nil s w = refl
  fold-late (token r rest) s w = rw (late r w.0) (fold-late rest s w.1)
  fold-late (node r below rest) s w = go (enters r) (fold-late below s w.0) (λ x. fold-late rest x w.1)
    where
      go : (e : Bool) → fold (of_tokens step counts enters) s below ≡ s → ((x : S) → fold (of_tokens step counts enters) x rest ≡ x)
          → fold (of_tokens step counts enters) (cond e (fold (of_tokens step counts enters) s below) s) rest ≡ s
      go true p q = q _ ∙ p
      go false p q = q s

-- what is below a node is what the table has inside it
unfoldable pub Rooted : List ℕ → Forest → Type 0
Rooted t nil = Unit
Rooted t (token r rest) = Rooted t rest
Rooted t (node r below rest) = (below ≡ inside t r.index) × Rooted t below × Rooted t rest

-- ---- one law for what is so of every level

module _ (t : List ℕ) (P : ℕ → Forest → Type 0)
    (at-end : (i : ℕ) → P i nil)
    (over : (i : ℕ) (f : Forest) → P (i + 1) f → P i f)
    (at-token : (i : ℕ) (f : Forest) → i < count t → last_node < kind_at t i → P (i + 1) f → P i (token (record_at t 0 i) f))
    (at-node : (i : ℕ) (below f : Forest) → i < count t → below ≡ inside t i → P (i + 1) below → P (i + 1) f → P i (node (record_at t 0 i) below f)) where
  inside_is : (i k : ℕ) → i < count t → depth_at t i ≡ k → level (k + 1) (run t 0 (i + 1) (count t - (i + 1))) ≡ inside t i
  unfolding kids record_at from
  inside_is i k h e = rw (from_cons t 0 i h, e)

  level_all : (n i k : ℕ) → n ≡ count t - i → P i (level k (run t 0 i n))
  unfolding run level record_at
  level_all zero i k e = at-end i
  level_all (suc n) i k e =
      let m : n ≡ count t - (i + 1) = omega arith in
      ⊎_elim
      (λ (h : depth_at t i < k). rw (level-shallow k (record_at t 0 i) (run t 0 (i + 1) n) h) (at-end i))
      (λ (h : k ≤ depth_at t i).
      ⊎_elim
      (λ (g : k < depth_at t i). rw (level-deep k (record_at t 0 i) (run t 0 (i + 1) n) g) (over i (level k (run t 0 (i + 1) n)) (level_all n (i + 1) k m)))
      (λ (g : depth_at t i ≤ k).
      let d : depth_at t i ≡ k = omega arith in
      ⊎_elim
      (λ (l : kind_at t i ≤ last_node).
      rw (level-node k (record_at t 0 i) (run t 0 (i + 1) n) d l)
      (at-node i (level (k + 1) (run t 0 (i + 1) n)) (level k (run t 0 (i + 1) n)) (omega arith)
      (ap (λ (c : ℕ). level (k + 1) (run t 0 (i + 1) c)) m ∙ inside_is i k (omega arith) d) (level_all n (i + 1) (k + 1) m) (level_all n (i + 1) k m)))
      (λ (l : last_node < kind_at t i).
      rw (level-token k (record_at t 0 i) (run t 0 (i + 1) n) d l) (at-token i (level k (run t 0 (i + 1) n)) (omega arith) l (level_all n (i + 1) k m)))
      (node-or-token (kind_at t i)))
      (lt-or-le k (depth_at t i)))
      (lt-or-le (depth_at t i) k)

  pub inside-all : (i : ℕ) → P (i + 1) (inside t i)
  unfolding kids from
  inside-all i =
      ⊎_elim
      (λ h. rw (from_cons t 0 i h) (level_all (count t - (i + 1)) (i + 1) _ refl))
      (λ h. rw (from_end t 0 i h) (at-end (i + 1)))
      (lt-or-le i (count t))

-- ---- the trees of an admitted table

module _ {t : List ℕ} {n : ℕ} (tidy : Tidy t n) where
  -- of what stands from record i on
  record Sound (i : ℕ) (f : Forest) : Type 0 where
    rooted : Rooted t f
    rises : Rises f
    since : (b : ℕ) → ((j : ℕ) → i ≤ j → j < count t → last_node < kind_at t j → b ≤ start_at t j) → Since b f

  at-end : (i : ℕ) → Sound i nil
  unfolding Rooted Rises Since
  at-end i = record { rooted = tt; rises = tt; since = λ b w. tt }

  over : (i : ℕ) (f : Forest) → Sound (i + 1) f → Sound i f
  over i f s = record { rooted = s.rooted; rises = s.rises; since = λ b w. s.since b (λ j p q k. w j (omega arith) q k) }

  at-token : (i : ℕ) (f : Forest) → i < count t → last_node < kind_at t i → Sound (i + 1) f → Sound i (token (record_at t 0 i) f)
  unfolding Rooted Rises Since record_at
  at-token i f h k s =
      record {
        rooted = s.rooted;
        rises = (s.since (start_at t i) (λ j p q l. (tidy-ordered tidy).starts i j (omega arith) q k l), s.rises);
        since = λ b w. (w i (omega arith) h k, s.since b (λ j p q l. w j (omega arith) q l));
      }

  at-node : (i : ℕ) (below f : Forest) → i < count t → below ≡ inside t i → Sound (i + 1) below → Sound (i + 1) f → Sound i (node (record_at t 0 i) below f)
  unfolding Rooted Rises Since record_at
  at-node i below f h e x y =
      record {
        rooted = (e ∙ ap (inside t) (sym (zero-add i)), x.rooted, y.rooted);
        rises = (x.rises, y.rises);
        since = λ b w. (x.since b (λ j p q l. w j (omega arith) q l), y.since b (λ j p q l. w j (omega arith) q l));
      }

  sound : (i : ℕ) → Sound (i + 1) (inside t i)
  sound = inside-all t Sound at-end over at-token at-node

  pub inside-rises : (i : ℕ) → Rises (inside t i)
  inside-rises i = (sound i).rises

  pub inside-rooted : (i : ℕ) → Rooted t (inside t i)
  inside-rooted i = (sound i).rooted
