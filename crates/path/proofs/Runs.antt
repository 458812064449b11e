-- A run of plain nodes, gone down at one go.
--     run-start       at record j
--     run_on          one node further down
--     descent-run     at the child that is taken, where a run goes down from it: the outer loop's next turn is at the run's last node
-- Assumes nothing.
use Prim.Native.Nat.{ℕ, zero, suc, ◌+◌, ◌-◌, ◌*◌, ◌≤◌, ◌<◌}
use mathlib.Core.Path.{◌≡◌, refl, sym, ap}
use mathlib.Core.Bool.{Bool, true, false, ◌&&◌}
use mathlib.Core.List.{List}
use mathlib.Core.Logic.{◌⊎◌, inl, inr, ⊎_elim}
use native.Mathlib.Nat.{add-zero}
use native.Mathlib.Omega.{arith}
use borrow.Author.Tests.{ne_eqb, lt-leb}
use lib.Dec.{eqb}
use lib.ListN.{drop}
use lib.Seq.{drop-drop}
use Rattle.lent.proofs.Cases.{lt-or-le}
use Rattle.std.specs.Prelude.{None}
use Rattle.records.specs.Kinds.{is_node, subquery_expression, join_constraint, update_statement, file, query_list, insert_statement, select_clause, from_clause, join_clause, prewhere_clause, where_clause, group_by_clause, having_clause, order_by_clause, settings_clause, setting_list, engine_clause, format_clause, insert_format_clause, column_definition, column_type_definition, column_codec, data_type, data_type_parameters, function_call, aggregate_function}
use Rattle.records.specs.Ranges.{spans, holds}
use Rattle.records.specs.Table.{record_bytes, count, kind_at, depth_at, start_at, end_at, record_at}
use Rattle.forest.specs.Forest.{Child}
use Rattle.forest.proofs.Laws.{record-tail, rest-kind, count-tail, seeks-start, seeks-here}
use Rattle.forest.proofs.Descents.{Down, Level, descent-walk, descent-tail}
use Rattle.path.specs.declared.gathered.Gathered.{Gathered}
use Rattle.path.specs.Path.{Next}
use Rattle.path.specs.inner.Gathered.{ruling_of, settled_by, stepped}
use Rattle.path.specs.inner.Plain.{Plain, Run}
use Rattle.path.specs.inner.Rules.{rule_of}
use Rattle.path.proofs.Gathers.{or-none}
use Rattle.path.proofs.Steps.{way}

-- a plain kind is none up to the last of which a rule speaks
other : (k x : ℕ) → Plain k → x ≤ aggregate_function → eqb k x ≡ false
other k x p h = ne_eqb k x (λ e. omega arith)

plain-none : (k : ℕ) (n : Next) → Plain k → rule_of k n ≡ None
unfolding rule_of
plain-none k n p =
    let no : (x : ℕ) → x ≤ aggregate_function → eqb k x ≡ false = λ x h. other k x p h in
    simp (
      no from_clause (omega arith),
      no join_clause (omega arith),
      no insert_statement (omega arith),
      no settings_clause (omega arith),
      no setting_list (omega arith),
      no engine_clause (omega arith),
      no format_clause (omega arith),
      no insert_format_clause (omega arith),
      no column_type_definition (omega arith),
      no data_type (omega arith),
      no data_type_parameters (omega arith),
      no column_definition (omega arith),
      no column_codec (omega arith),
      no function_call (omega arith),
      no aggregate_function (omega arith),
      no select_clause (omega arith),
      no prewhere_clause (omega arith),
      no where_clause (omega arith),
      no group_by_clause (omega arith),
      no having_clause (omega arith),
      no order_by_clause (omega arith),
      no file (omega arith),
      no query_list (omega arith),
    )

-- down from a plain node to node i, of the plain kind k: nothing else changes
unfoldable passed : Gathered → ℕ → ℕ → Gathered
passed g k i =
    record {
      node = i;
      kind = k;
      ruling = g.ruling;
      statement = g.statement;
      query = g.query;
      constrained = g.constrained;
    }

and_none : (a : Bool) → (a && false) ≡ false
and_none true = refl
and_none false = refl

plain-stepped : (g : Gathered) (k i : ℕ) → Plain g.kind → Plain k → stepped g k i ≡ passed g k i
unfolding stepped settled_by ruling_of passed
plain-stepped g k i p q =
    rw (
      plain-none g.kind _ p,
      lt-leb k update_statement (omega arith),
      and_none _,
      other k subquery_expression q (omega arith),
      other k join_constraint q (omega arith),
      or-none g.constrained,
    )

-- two steps down, all plain, are one
stepped-twice : (g : Gathered) (k i k' i' : ℕ) → Plain g.kind → Plain k → Plain k' → stepped (stepped g k i) k' i' ≡ stepped g k' i'
unfolding passed
stepped-twice g k i k' i' p q q' = rw (plain-stepped g k i p q, plain-stepped (passed g k i) k' i' q q', plain-stepped g k' i' p q')

module _ {a : ℕ} {t : List ℕ} {j o : ℕ} where
  pub run-start : j < count t → Run a t j o j
  run-start h =
      record {
        on = omega arith;
        within = h;
        plain = λ i l m. absurd (omega arith);
        child = λ i l m. absurd (omega arith);
        held = λ i l m. absurd (omega arith);
      }

  pub run_on : {r : ℕ} → Run a t j o r → r + 1 < count t → Plain a × Plain (kind_at t r) × Plain (kind_at t (r + 1)) → depth_at t (r + 1) ≡ depth_at t r + 1
      → (is_node (kind_at t (r + 1)) && spans o (start_at t (r + 1)) (end_at t (r + 1))) ≡ true → Run a t j o (r + 1)
  run_on {r} v h p d e =
      record {
        on = omega (arith, v.on);
        within = h;
        plain = λ i l m. ⊎_elim (λ q. v.plain i l q) (λ q. rw (← q) p) (before-or-last i m);
        child = λ i l m. ⊎_elim (λ q. v.child i l q) (λ q. rw (← q) d) (before-or-last i m);
        held = λ i l m. ⊎_elim (λ q. v.held i l q) (λ q. rw (← q) e) (before-or-last i m);
      }
    where
      before-or-last : (i : ℕ) → i < r + 1 → (i < r) ⊎ (r ≡ i)
      before-or-last i m = ⊎_elim (λ q. inl q) (λ q. inr (omega arith)) (lt-or-le i r)

module _ {o : ℕ} {s : List ℕ} {base j : ℕ} {g : Gathered} {«all» : Gathered} (w : Level (way o) s base j g «all») {r : ℕ} (v : Run g.kind s j o r) where
  abbrev rest : ℕ → List ℕ
  rest n = drop (record_bytes * n) s

  -- the descent at the node n below j
  below : (n : ℕ) → j + n ≤ r → (is_node (kind_at s j) && holds o (record_at s base j)) ≡ true
      → Down (way o) (rest (j + n)) (base + (j + n)) (stepped g (kind_at s (j + n)) (base + (j + n))) «all»
  unfolding record_at
  below zero h e = rw (add-zero j) (descent-tail w (omega (arith, v.within)) e refl refl)
  below (suc n) h e =
      let i : ℕ = j + n in
      let x : record_at (rest i) (base + i) 0 ≡ record_at s base i = rw (add-zero i) at (record-tail s base i 0) in
      let y : record_at (rest i) (base + i) 1 ≡ record_at s base (i + 1) = record-tail s base i 1 in
      let m : 1 < count (rest i) = omega (arith, count-tail s base i, v.within) in
      let over : depth_at (rest i) 0 ≡ depth_at s i = ap (λ q. q.depth) x in
      let deep : depth_at (rest i) 1 ≡ depth_at s (i + 1) = ap (λ q. q.depth) y in
      let kind : kind_at (rest i) 1 ≡ kind_at s (i + 1) = ap (λ q. q.kind) y in
      let starts : start_at (rest i) 1 ≡ start_at s (i + 1) = ap (λ q. q.start) y in
      let ends : end_at (rest i) 1 ≡ end_at s (i + 1) = ap (λ q. q.end) y in
      let c : Child (rest i) 1 1 = seeks-here (seeks-start (rest i) 1 (omega arith)) (omega (arith, v.child i (omega arith) (omega arith))) in
      let d = descent-walk (below n (omega arith) e) (omega arith) c in
      let k : record_bytes * (i + 1) ≡ record_bytes * i + record_bytes * 1 = omega arith in
      let q : rest (i + 1) ≡ drop (record_bytes * 1) (rest i) = rw (k, drop-drop (record_bytes * 1) (record_bytes * i) s) in
      let t : (is_node (kind_at (rest i) 1) && spans o (start_at (rest i) 1) (end_at (rest i) 1)) ≡ true = rw (kind, starts, ends) (v.held i (omega arith) (omega arith)) in
      let p = v.plain i (omega arith) (omega arith) in
      let f = stepped-twice g (kind_at s i) (base + i) (kind_at s (i + 1)) (base + i + 1) p.0 p.1 p.2 in
      let z : i + 1 ≡ j + suc n = omega arith in
      let b : base + i + 1 ≡ base + (i + 1) = omega arith in
      rw (← z, ← b) (descent-tail d m t q (rw kind (sym f)))

  -- and at the last of them, from which on p is all the rest
  pub descent-run : {p : List ℕ} → (is_node (kind_at s j) && holds o (record_at s base j)) ≡ true → p ≡ drop (record_bytes * r) s
      → Down (way o) p (base + r) (stepped g (kind_at p 0) (base + r)) «all»
  descent-run e q =
      let z : j + (r - j) ≡ r = omega (arith, v.on) in
      rw (q, rest-kind s base r) (rw z at (below (r - j) (omega arith) e))
