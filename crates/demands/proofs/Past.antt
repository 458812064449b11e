-- Stop once past the cursor:
--     same-past    two admitted tables that agree up to and with the first token past the offset give equal replies at every node before it
-- Assumes nothing.
use Prim.Native.Nat.{ℕ, zero, suc, ◌+◌, ◌-◌, ◌≤◌, ◌<◌}
use mathlib.Core.Path.{◌≡◌, refl, sym, ap, ◌∙◌}
use mathlib.Core.Bool.{Bool, cond}
use mathlib.Core.List.{List, [], ◌∷◌, ◌++◌}
use mathlib.Core.Logic.{⊎_elim}
use native.Mathlib.Omega.{arith}
use native.Mathlib.Nat.{add-zero, zero-add}
use lib.ListN.{length}
use Rattle.std.specs.Prelude.{Option, unwrap_or}
use Rattle.records.specs.declared.record.Rec.{Rec}
use Rattle.records.specs.Table.{count, depth_at, record_at, run, from}
use Rattle.forest.specs.Forest.{level, kids, inside}
use Rattle.forest.specs.inner.Scan.{of_tokens}
use Rattle.forest.specs.inner.Ordered.{Ordered}
use Rattle.forest.proofs.Laws.{from_cons, run-same}
use Rattle.forest.proofs.Orders.{admitted-ordered}
use Rattle.forest.proofs.Scans.{sweep, sweep-fold, fold-tokens}
use Rattle.tokens.specs.declared.sought.Sought.{Sought}
use Rattle.tokens.specs.declared.sought.Sought.TheVariants.{LastToken, ArgumentIndex}
use Rattle.tokens.specs.LastToken.{last_two, dotted}
use Rattle.tokens.specs.Function.{arguments}
use Rattle.tokens.specs.inner.Turns.{Findings, nothing_found, swept}
use Rattle.readings.proofs.Sweeping.{seeking, swept-two, swept-arguments}
use Rattle.readings.proofs.Early.{Late, LateFrom, sweep-late, late-run, ordered-late}
use Rattle.demands.specs.Past.{FirstPast, AgreeTo, SamePast}

-- ---- a sweep over records behind which no token counts

module _ {S : Type 0} (step : S → Rec → S) (counts enters : Rec → Bool) where
  sweep-before : (xs ys : List Rec) (k m : ℕ) (s : S) → Late counts ys
      → sweep (of_tokens step counts enters) k m s (xs ++ ys) ≡ sweep (of_tokens step counts enters) k m s xs
  unfolding sweep
  sweep-before [] ys k m s l = sweep-late step counts enters ys k m s l
  sweep-before (x ∷ xs) ys k m s l =
      rw (sweep-before xs ys k m s l, sweep-before xs ys k x.depth (cond (counts x) (step s x) s) l, sweep-before xs ys k (x.depth + 1) s l, sweep-before xs ys k x.depth s l)

run-split : (t : List ℕ) (base i a b : ℕ) → run t base i (a + b) ≡ run t base i a ++ run t base (i + a) b
unfolding run
run-split t base i zero b = rw (zero-add b, add-zero i)
run-split t base i (suc a) b =
    let e : suc a + b ≡ suc (a + b) = omega arith in
    let f : i + suc a ≡ i + 1 + a = omega arith in
    rw (e, f) (ap (λ (l : List Rec). record_at t base i ∷ l) (run-split t base (i + 1) a b))

-- what is found below record p, by the records before record i alone
module _ (x : Sought) (o : ℕ) (t : List ℕ) (p i : ℕ) (h : p < i) (c : i ≤ count t) (l : LateFrom o t i) where
  found_before : swept x o (inside t p) ≡ sweep (seeking x o) (depth_at t p + 1) (depth_at t p + 1) nothing_found (run t 0 (p + 1) (i - (p + 1)))
  unfolding kids record_at swept seeking from
  found_before =
      let e : count t - (p + 1) ≡ i - (p + 1) + (count t - i) = omega arith in
      let f : p + 1 + (i - (p + 1)) ≡ i = omega arith in
      rw (from_cons t 0 p (omega arith))
      (sym (fold-tokens _ _ _ (level (depth_at t p + 1) (from t 0 (p + 1))) nothing_found)
      ∙ sym (sweep-fold _ (depth_at t p + 1) nothing_found (from t 0 (p + 1)))
      ∙ rw (e, run-split t 0 (p + 1) (i - (p + 1)) (count t - i), f)
      (sweep-before _ _ _ (run t 0 (p + 1) (i - (p + 1))) (run t 0 i (count t - i)) _ _ nothing_found (late-run x o t 0 i (count t - i) (omega arith) l)))

-- ---- the two tables

module _ (t u : List ℕ) (o i : ℕ) (y : Ordered t) (z : Ordered u) (w : FirstPast t o i) (a : AgreeTo i t u) where
  reaches : (i ≤ count t) × (i ≤ count u)
  reaches =
      ⊎_elim
      (λ q. (omega (arith, q.0), omega (arith, (a.same i (omega arith) q.0).0)))
      (λ q. (omega (arith, q), omega (arith, q, a.whole q)))
      w.it

  late-one : LateFrom o t i
  late-one =
      ⊎_elim
      (λ q. ordered-late y (omega (arith, q.1.0)) q.2)
      (λ q. λ j b d k. absurd (omega (arith, q)))
      w.it

  late-other : LateFrom o u i
  unfolding record_at
  late-other =
      ⊎_elim
      (λ q.
      let e = (a.same i (omega arith) q.0).1 in
      ordered-late z (omega (arith, q.1.0, ap (λ (r : Rec). r.kind) e)) (omega (arith, q.2, ap (λ (r : Rec). r.start) e)))
      (λ q. λ j b d k. absurd (omega (arith, q, a.whole q)))
      w.it

  module _ (p : ℕ) (h : p < i) where
    alike : (j : ℕ) → j < i → record_at t 0 j ≡ record_at u 0 j
    alike j g = (a.same j (omega arith) (omega (arith, reaches.0))).1

    depths : depth_at t p ≡ depth_at u p
    unfolding record_at
    depths = ap (λ (r : Rec). r.depth) (alike p h)

    found : (x : Sought) → swept x o (inside t p) ≡ swept x o (inside u p)
    found x =
        found_before x o t p i h reaches.0 late-one
        ∙ rw (depths, run-same t u 0 0 (p + 1) (p + 1) (i - (p + 1)) (λ m g. alike (p + 1 + m) (omega arith)))
        (sym (found_before x o u p i h reaches.1 late-other))

    two : last_two o (inside t p) ≡ last_two o (inside u p)
    two = sym (swept-two o (inside t p)) ∙ ap (λ (f : Findings). f.two) (found LastToken) ∙ swept-two o (inside u p)

    argued : arguments o (inside t p) ≡ arguments o (inside u p)
    argued = sym (swept-arguments o (inside t p)) ∙ ap (λ (f : Findings). f.arguments) (found ArgumentIndex) ∙ swept-arguments o (inside u p)

-- THE THEOREM
pub same-past : SamePast
same-past src t u o i p v v' w a h n =
    let y = admitted-ordered t (length src) refl v in
    let z = admitted-ordered u (length src) refl v' in
    record {
      last-token = two t u o i y z w a p h;
      name = ap (dotted src) (two t u o i y z w a p h);
      argument = ap (λ (x : Option ℕ). unwrap_or x 0) (argued t u o i y z w a p h);
    }
