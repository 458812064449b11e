-- A reading of a forest is one loop over the records of a stretch, with no stack. The loop keeps how deep the next record may be: one
-- below a node that it goes into, and no deeper than any other record. A deeper record is passed over, and a record that is no deeper
-- than the stretch's first ends it. This holds of every table, also of one that is no tree's.
--     sweep-none, sweep-start    a stretch with no record; before the first turn
--     tokens_none, tokens-start  the same for a reading of tokens alone: the answer is a fold along the list of those that are reached
--     sweep-end, sweep-stop      after the last record; at a record that is shallower than k
--     sweep-over, sweep-far      at a record that is too deep; past all that are, to the first that is not
--     sweep-token                at a token
--     sweep-into, sweep-past     at a node that is gone into; at one that is not
-- Assumes nothing.
use mathlib.Core.Path.{◌≡◌, refl, sym, ap, ◌∙◌}
use mathlib.Core.Logic.{⊎_elim}
use mathlib.Core.Bool.{Bool, true, false, cond}
use mathlib.Core.List.{List, [], ◌∷◌, ◌++◌}
use Prim.Native.Nat.{ℕ, zero, suc, ◌+◌, ◌-◌, ◌≤◌, ◌<◌}
use native.Mathlib.Nat.{add-zero}
use native.Mathlib.Omega.{arith}
use borrow.Author.Tests.{lt-ltb, le-ltb, le-leb, lt-leb}
use lib.Dec.{ltb}
use Rattle.records.specs.declared.record.Rec.{Rec}
use Rattle.records.specs.Kinds.{is_node, last_node}
use Rattle.records.specs.Table.{count, kind_at, depth_at, record_at, from, records}
use Rattle.forest.specs.Forest.{Forest, nil, token, node, level, kids, Reached}
use Rattle.forest.specs.inner.Scan.{Reading, fold, of_tokens}
use Rattle.forest.specs.Tokens.{tokens_of, only, reached}
use Rattle.forest.specs.Descent.{along}
use Rattle.lent.proofs.Cases.{lt-or-le}
use Rattle.forest.proofs.Laws.{node-or-token, level-shallow, level-deep, level-token, level-node, from_end, from_cons, kids-none}

-- the loop: k is the depth of the siblings, m how deep the next record may be
unfoldable pub sweep : {S : Type 0} → Reading S → ℕ → ℕ → S → List Rec → S
sweep R k m s [] = s
sweep {S} R k m s (r ∷ rs) =
    let over : S = sweep R k m s rs in
    let on : S = sweep R k r.depth (R.at_token s r) rs in
    let into : S = sweep R k (r.depth + 1) (R.at_node s r) rs in
    let past : S = sweep R k r.depth (R.at_node s r) rs in
    let opens : S = cond (R.enters s r) into past in
    let seen : S = cond (is_node r.kind) opens on in
    let more : S = cond (ltb m r.depth) over seen in
    cond (ltb r.depth k) s more

module _ {S : Type 0} (R : Reading S) (s : S) (r : Rec) (below rest : Forest) where
  abbrev chosen : Bool → S
  chosen b = cond b (fold R (R.at_node s r) below) (R.at_node s r)

  pub fold-node : {b : Bool} → R.enters s r ≡ b → fold R s (node r below rest) ≡ fold R (chosen b) rest
  unfolding fold
  fold-node e = ap (λ (x : Bool). fold R (chosen x) rest) e

module _ {S : Type 0} (R : Reading S) (k : ℕ) where
  -- the siblings of depth k + n - 1, then those of the level above, up to depth k
  after : ℕ → S → List Rec → S
  after zero s rs = s
  after (suc n) s rs = after n (fold R s (level (k + n) rs)) rs

  after-nil : (n : ℕ) (s : S) → after n s [] ≡ s
  unfolding after fold level
  after-nil zero s = refl
  after-nil (suc n) s = after-nil n s

  after_stop : (n : ℕ) (s : S) (r : Rec) (rs : List Rec) → r.depth < k → after n s (r ∷ rs) ≡ s
  unfolding after fold
  after_stop zero s r rs h = refl
  after_stop (suc n) s r rs h = rw (level-shallow (k + n) r rs (omega arith)) (after_stop n s r rs h)

  after-deep : (n : ℕ) (s : S) (r : Rec) (rs : List Rec) → k + n ≤ r.depth → after n s (r ∷ rs) ≡ after n s rs
  unfolding after
  after-deep zero s r rs h = refl
  after-deep (suc n) s r rs h = rw (level-deep (k + n) r rs (omega arith)) (after-deep n _ r rs (omega arith))

  -- of a record of depth k + d, the deeper levels are empty, and the shallower pass it over
  after-here : (n d : ℕ) (s : S) (r : Rec) (rs : List Rec) → r.depth ≡ k + d → d < n → after n s (r ∷ rs) ≡ after d (fold R s (level (k + d) (r ∷ rs))) rs
  unfolding after fold
  after-here zero d s r rs e h = absurd (omega arith)
  after-here (suc n) d s r rs e h =
      ⊎_elim
      (λ l. rw (level-shallow (k + n) r rs (omega arith)) (after-here n d s r rs e l))
      (λ l. let q : n ≡ d = omega arith in rw q (after-deep d _ r rs (omega arith)))
      (lt-or-le d n)

  module _ (n d : ℕ) (s : S) (r : Rec) (rs : List Rec) (e : r.depth ≡ k + d) (h : d ≤ n)
      (ih : (m d' : ℕ) (s' : S) → m ≡ k + d' → sweep R k m s' rs ≡ after (suc d') s' rs) where
    seen-node : r.kind ≤ last_node → (b : Bool) → R.enters s r ≡ b
        → cond b (sweep R k (r.depth + 1) (R.at_node s r) rs) (sweep R k r.depth (R.at_node s r) rs) ≡ after (suc n) s (r ∷ rs)
    unfolding after fold
    seen-node t true b =
        let p : k + d + 1 ≡ k + suc d = omega arith in
        ih _ (suc d) _ (omega arith) ∙ sym (after-here (suc n) d s r rs e (omega arith) ∙ rw (level-node (k + d) r rs e t, fold-node R s r _ _ b, p))
    seen-node t false b = ih _ d _ e ∙ sym (after-here (suc n) d s r rs e (omega arith) ∙ rw (level-node (k + d) r rs e t, fold-node R s r _ _ b))

    sweep-seen : (m : ℕ) → m ≡ k + n → sweep R k m s (r ∷ rs) ≡ after (suc n) s (r ∷ rs)
    unfolding sweep fold
    sweep-seen m q =
        rw (le-ltb r.depth k (omega arith), le-ltb m r.depth (omega arith))
        (⊎_elim
        (λ t. rw (le-leb r.kind last_node t) (seen-node t (R.enters s r) refl))
        (λ t.
        rw (lt-leb r.kind last_node t)
        (ih _ d _ e ∙ sym (after-here (suc n) d s r rs e (omega arith) ∙ (unfold after in rw (level-token (k + d) r rs e t)))))
        (node-or-token r.kind))

  sweep-after : (rs : List Rec) (m n : ℕ) (s : S) → m ≡ k + n → sweep R k m s rs ≡ after (suc n) s rs
  unfolding sweep
  sweep-after [] m n s q = sym (after-nil (suc n) s)
  sweep-after (r ∷ rs) m n s q =
      ⊎_elim
      (λ h. rw (lt-ltb r.depth k h) (sym (after_stop (suc n) s r rs h)))
      (λ h.
      ⊎_elim
      (λ g. rw (le-ltb r.depth k h, lt-ltb m r.depth g) (sweep-after rs m n s q ∙ sym (after-deep (suc n) s r rs (omega arith))))
      (λ g. sweep-seen n (r.depth - k) s r rs (omega arith) (omega arith) (sweep-after rs) m q)
      (lt-or-le m r.depth))
      (lt-or-le r.depth k)

  -- THE LAW
  pub sweep-fold : (s : S) (rs : List Rec) → sweep R k k s rs ≡ fold R s (level k rs)
  unfolding after
  sweep-fold s rs = rw add-zero at (sweep-after rs k zero s (omega arith))

-- ---- a reading of tokens alone is a fold along the list of those that count and are reached

module _ {S : Type 0} (step : S → Rec → S) (counts : Rec → Bool) where
  along-append : (xs ys : List Rec) (s : S) → along step s (only counts (xs ++ ys)) ≡ along step (along step s (only counts xs)) (only counts ys)
  unfolding along only
  along-append [] ys s = refl
  along-append (x ∷ xs) ys s = go (counts x) (λ z. along-append xs ys z)
    where
      go : (b : Bool) → ((z : S) → along step z (only counts (xs ++ ys)) ≡ along step (along step z (only counts xs)) (only counts ys))
          → along step s (cond b (x ∷ only counts (xs ++ ys)) (only counts (xs ++ ys)))
          ≡ along step (along step s (cond b (x ∷ only counts xs) (only counts xs))) (only counts ys)
      go true e = e (step s x)
      go false e = e s

  pub fold-tokens : (enters : Rec → Bool) (f : Forest) (s : S) → fold (of_tokens step counts enters) s f ≡ along step s (reached counts enters f)
  unfolding fold tokens_of along only
  fold-tokens enters nil s = refl
  fold-tokens enters (token r rest) s = fold-tokens enters rest _ ∙ go (counts r)
    where
      go : (b : Bool) → along step (cond b (step s r) s) (reached counts enters rest) ≡ along step s (cond b (r ∷ reached counts enters rest) (reached counts enters rest))
      go true = refl
      go false = refl
  fold-tokens enters (node r below rest) s = fold-tokens enters rest _ ∙ go (enters r) (fold-tokens enters below s)
    where
      go : (b : Bool) → fold (of_tokens step counts enters) s below ≡ along step s (reached counts enters below)
          → along step (cond b (fold (of_tokens step counts enters) s below) s) (reached counts enters rest)
          ≡ along step s (only counts (cond b (tokens_of enters below) [] ++ tokens_of enters rest))
      go true e = rw e (sym (along-append (tokens_of enters below) (tokens_of enters rest) s))
      go false e = refl

-- ---- the loop over a table: at record i, with s known so far
pub record Sweep {S : Type 0} (R : Reading S) (t : List ℕ) (base k m i : ℕ) (s «all» : S) : Type 0 where
  pub left : sweep R k m s (from t base i) ≡ «all»

module _ {S : Type 0} (R : Reading S) (t : List ℕ) (base : ℕ) (s : S) where
  pub sweep-none : count t ≡ 0 → s ≡ fold R s (kids (records base t))
  unfolding fold
  sweep-none h = rw (kids-none t base h)

  pub sweep-start : {k : ℕ} → 0 < count t → k ≡ depth_at t 0 + 1 → Sweep R t base k k 1 s (fold R s (kids (records base t)))
  unfolding kids record_at
  sweep-start h e = record { left = rw (e, from_cons t base 0 h) (sweep-fold R (depth_at t 0 + 1) s (from t base 1)) }

-- the same for a reading of tokens alone
module _ {S : Type 0} (step : S → Rec → S) (counts enters : Rec → Bool) (t : List ℕ) (base : ℕ) (s : S) where
  pub tokens_none : count t ≡ 0 → s ≡ along step s (reached counts enters (kids (records base t)))
  tokens_none h = sweep-none (of_tokens step counts enters) t base s h ∙ fold-tokens step counts enters _ s

  pub tokens-start : {k : ℕ} → 0 < count t → k ≡ depth_at t 0 + 1
      → Sweep (of_tokens step counts enters) t base k k 1 s (along step s (reached counts enters (kids (records base t))))
  tokens-start h e =
      rw (← fold-tokens step counts enters (kids (records base t)) s)
      (sweep-start (of_tokens step counts enters) t base s h e)

module _ {S : Type 0} {R : Reading S} {t : List ℕ} {base k m i : ℕ} {s «all» : S} (w : Sweep R t base k m i s «all») where
  pub sweep-end : count t ≤ i → s ≡ «all»
  unfolding sweep
  sweep-end h = rw (from_end t base i h) at w.left

  module _ (h : i < count t) where
    pub sweep-stop : depth_at t i < k → s ≡ «all»
    unfolding sweep record_at
    sweep-stop d = rw (from_cons t base i h, lt-ltb (depth_at t i) k d) at w.left

    module _ (kd : k ≤ depth_at t i) where
      pub sweep-over : m < depth_at t i → Sweep R t base k m (i + 1) s «all»
      unfolding sweep record_at
      sweep-over d = record { left = rw (from_cons t base i h, le-ltb (depth_at t i) k kd, lt-ltb m (depth_at t i) d) at w.left }

      module _ (dm : depth_at t i ≤ m) where
        pub sweep-token : {m' : ℕ} {s' : S} → last_node < kind_at t i → m' ≡ depth_at t i → s' ≡ R.at_token s (record_at t base i) → Sweep R t base k m' (i + 1) s' «all»
        unfolding sweep record_at
        sweep-token g p q =
            record { left = rw (p, q) (rw (from_cons t base i h, le-ltb (depth_at t i) k kd, le-ltb m (depth_at t i) dm, lt-leb (kind_at t i) last_node g) at w.left) }

        pub sweep-into : {m' : ℕ} {s' : S} → kind_at t i ≤ last_node → R.enters s (record_at t base i) ≡ true → m' ≡ depth_at t i + 1
            → s' ≡ R.at_node s (record_at t base i) → Sweep R t base k m' (i + 1) s' «all»
        unfolding sweep record_at
        sweep-into g b p q =
            record { left = rw (p, q) (rw (from_cons t base i h, le-ltb (depth_at t i) k kd, le-ltb m (depth_at t i) dm, le-leb (kind_at t i) last_node g, b) at w.left) }

        pub sweep-past : {m' : ℕ} {s' : S} → kind_at t i ≤ last_node → R.enters s (record_at t base i) ≡ false → m' ≡ depth_at t i
            → s' ≡ R.at_node s (record_at t base i) → Sweep R t base k m' (i + 1) s' «all»
        unfolding sweep record_at
        sweep-past g b p q =
            record { left = rw (p, q) (rw (from_cons t base i h, le-ltb (depth_at t i) k kd, le-ltb m (depth_at t i) dm, le-leb (kind_at t i) last_node g, b) at w.left) }

-- where a search along the level stops
pub sweep-far : {S : Type 0} {R : Reading S} {t : List ℕ} {base k m i r : ℕ} {s «all» : S} → Sweep R t base k m i s «all» → k ≤ m → Reached t m i r → Sweep R t base k m r s «all»
sweep-far {R = R} {t = t} {base = base} {k = k} {m = m} {i = i} {r = r} {s = s} {«all» = «all»} w h v = go (r - i) i (omega (arith, v.on)) (omega arith) w
  where
    go : (g x : ℕ) → g + x ≡ r → i ≤ x → Sweep R t base k m x s «all» → Sweep R t base k m r s «all»
    go zero x z l u = let q : x ≡ r = omega arith in rw q at u
    go (suc g) x z l u =
        let d : m < depth_at t x = v.passed x l (omega arith) in
        go g (x + 1) (omega arith) (omega arith) (sweep-over u (omega (arith, v.within)) (omega arith) d)
