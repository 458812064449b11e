-- On an admitted table every name that is given starts inside the source, so that the contexts given are told apart by their numbers
-- and values.
--     given-ranged     the context at any offset has such a name, or none
--     given-apart      so any two contexts that are given on admitted tables are the same if their numbers and values are
-- Assumes nothing.
use Prim.Native.Nat.{ℕ, zero, suc, ◌+◌, ◌-◌, ◌≤◌, ◌<◌}
use mathlib.Core.Path.{◌≡◌}
use mathlib.Core.Bool.{Bool, true, false, cond, ◌&&◌, ◌||◌}
use mathlib.Core.List.{List, [], ◌∷◌}
use mathlib.Core.Logic.{⊎_elim}
use native.Mathlib.Omega.{arith}
use lib.Dec.{ltb, eqb}
use Rattle.std.specs.Prelude.{Option, None, Some, Ok}
use Rattle.records.specs.declared.range.Range.{Range}
use Rattle.records.specs.declared.record.Rec.{Rec}
use Rattle.records.specs.Kinds.{last_node, file, bare_word, opening_round, identifier, select_clause, from_clause, prewhere_clause, where_clause, group_by_clause, having_clause, order_by_clause, settings_clause, format_clause, join_constraint}
use Rattle.records.specs.Table.{count, kind_at, start_at, record_at, run, from}
use Rattle.forest.specs.Forest.{Forest, nil, token, node, level, kids, inside}
use Rattle.table.specs.Rules.{verdict}
use Rattle.forest.specs.Sense.{Tidy}
use Rattle.lent.proofs.Cases.{lt-or-le}
use Rattle.forest.proofs.Laws.{node-or-token, level-shallow, level-deep, level-token, level-node, from_end}
use Rattle.forest.proofs.Sense.{admitted-tidy}
use Rattle.contexts.specs.declared.context.CursorContext.{CursorContext}
use Rattle.contexts.specs.declared.context.CursorContext.TheVariants.{Expression, SelectExpression, StatementStart, Unknown}
use Rattle.contexts.specs.declared.trailing.Clause.{Clause}
use Rattle.path.specs.Path.{path_at, one_of, deepest, on_path, trails}
use Rattle.tokens.specs.LastToken.{named, last_two, is_join_word}
use Rattle.tokens.specs.Function.{bare_word_in, or_name, function_name}
use Rattle.contexts.specs.Trailing.{past_clause, past_end, trailing_in}
use Rattle.contexts.specs.PathRules.{NodeRule, Seen, table_reference, joined, function_argument, column_or, column, path_rules, ruled, else_ask, seen, by_path}
use Rattle.cursor.specs.CursorContext.{starts_after, last_rule, given_or, context_at}
use Rattle.contexts.specs.Context.{coded, Starts, Ranged}
use Rattle.contexts.proofs.Coded.{tells-apart}

-- ---- what holds of each token of a table holds of each token of its tree

module _ (P : Rec → Type 0) where
  unfoldable Every : Forest → Type 0
  Every nil = Unit
  Every (token r rest) = P r × Every rest
  Every (node r below rest) = Every below × Every rest

  unfoldable Each : List Rec → Type 0
  Each [] = Unit
  Each (r ∷ rs) = (last_node < r.kind → P r) × Each rs

  every-level : (rs : List Rec) (k : ℕ) → Each rs → Every (level k rs)
  unfolding Each Every
  every-level [] k e = unfold level in tt
  every-level (r ∷ rs) k e =
      ⊎_elim
      (λ h. rw (level-shallow k r rs h) tt)
      (λ h.
      ⊎_elim
      (λ g. rw (level-deep k r rs g) (every-level rs k e.1))
      (λ g.
      let d : r.depth ≡ k = omega arith in
      ⊎_elim
      (λ n. rw (level-node k r rs d n) (every-level rs (k + 1) e.1, every-level rs k e.1))
      (λ n. rw (level-token k r rs d n) (e.0 n, every-level rs k e.1))
      (node-or-token r.kind))
      (lt-or-le k r.depth))
      (lt-or-le r.depth k)

  every_kids : (rs : List Rec) → Each rs → Every (kids rs)
  unfolding kids Each
  every_kids [] e = unfold Every in tt
  every_kids (r ∷ rs) e = every-level rs (r.depth + 1) e.1

  module _ (t : List ℕ) (base : ℕ) (h : (j : ℕ) → j < count t → last_node < kind_at t j → P (record_at t base j)) where
    each-run : (i n : ℕ) → i + n ≤ count t → Each (run t base i n)
    unfolding Each run record_at
    each-run i zero l = tt
    each-run i (suc n) l = (h i (omega arith), each-run (i + 1) n (omega arith))

    every-inside : (i : ℕ) → Every (kids (from t base i))
    unfolding from kids Every
    every-inside i =
        ⊎_elim
        (λ l. every_kids (run t base i (count t - i)) (each-run i (count t - i) (omega arith)))
        (λ l. rw (from_end t base i l) tt)
        (lt-or-le i (count t))

-- ---- a function's name

abbrev Near : Rec → Type 0
Near r = r.start < 4294967295

starts-cond : (b : Bool) (x y : Option Range) → Starts x → Starts y → Starts (cond b x y)
starts-cond true x y p q = p
starts-cond false x y p q = q

starts-or : (x y : Option Range) → Starts x → Starts y → Starts (or_name x y)
unfolding or_name
starts-or None y p q = q
starts-or (Some r) y p q = p

starts-bare : (f : Forest) → Every Near f → Starts (bare_word_in f)
unfolding Every bare_word_in Starts
starts-bare nil e = tt
starts-bare (token r rest) e = starts-cond (eqb r.kind bare_word) (named r) (bare_word_in rest) e.0 (starts-bare rest e.1)
starts-bare (node r below rest) e = starts-bare rest e.1

starts-name : (f : Forest) → Every Near f → Starts (function_name f)
unfolding Every function_name Starts
starts-name nil e = tt
starts-name (token r rest) e =
    starts-cond (eqb r.kind bare_word) (named r) _ e.0
    (starts-cond (eqb r.kind opening_round) None (function_name rest) tt (starts-name rest e.1))
starts-name (node r below rest) e =
    starts-cond (eqb r.kind identifier) _ (function_name rest) (starts-or (bare_word_in below) (function_name rest) (starts-bare below e.0) (starts-name rest e.1)) (starts-name rest e.1)

-- ---- the rules

ranged-cond : (b : Bool) (x y : CursorContext) → Ranged x → Ranged y → Ranged (cond b x y)
ranged-cond true x y p q = p
ranged-cond false x y p q = q

unfoldable Fine : Option CursorContext → Type 0
Fine None = Unit
Fine (Some c) = Ranged c

fine-cond : (b : Bool) (x y : Option CursorContext) → Fine x → Fine y → Fine (cond b x y)
fine-cond true x y p q = p
fine-cond false x y p q = q

fine-else : (x y : Option CursorContext) → Fine x → Fine y → Fine (else_ask x y)
unfolding else_ask
fine-else None y p q = q
fine-else (Some c) y p q = p

ranged-given : (other : CursorContext) (a : Option CursorContext) → Ranged other → Fine a → Ranged (given_or other a)
unfolding given_or Fine
ranged-given other None p q = p
ranged-given other (Some c) p q = q

unfoldable Gives : List NodeRule → Type 0
Gives [] = Unit
Gives (r ∷ rs) = Ranged r.gives × Gives rs

fine-ruled : (k : ℕ) (rs : List NodeRule) → Gives rs → Fine (ruled k rs)
unfolding ruled Gives Fine
fine-ruled k [] g = tt
fine-ruled k (r ∷ rs) g = fine-cond (one_of r.kinds k) _ (ruled k rs) (fine-cond r.applies (Some r.gives) None g.0 tt) (fine-ruled k rs g.1)

ranged-column : (x : CursorContext) (n : Option Range) → Ranged x → Ranged (column_or x n)
unfolding column_or Ranged
ranged-column x None p = p
ranged-column x (Some r) p = tt

ranged-joined : (src : List ℕ) (o : ℕ) (c : Bool) (f : Forest) → Ranged (joined src o c f)
unfolding joined Ranged table_reference
ranged-joined src o c f = ranged-cond (is_join_word src (last_two o f) || c) Expression _ tt tt

gives-rules : (src : List ℕ) (o : ℕ) (n : Seen) → Every Near n.children → Gives (path_rules src o n)
unfolding path_rules Gives Ranged table_reference function_argument column
gives-rules src o n e =
    (tt, (ranged-joined src o n.constrained n.children, (tt, (tt, (tt, (tt, (tt, (tt, (tt, (starts-name n.children e, (ranged-column _ _ (ranged-cond (eqb n.kind select_clause) SelectExpression Expression tt tt), (tt, tt))))))))))))

fine-clause : (k : ℕ) → Fine (past_clause k)
unfolding past_clause Fine Ranged
fine-clause k =
    fine-cond (one_of (prewhere_clause ∷ where_clause ∷ group_by_clause ∷ having_clause ∷ order_by_clause ∷ []) k) _ _ tt
    (fine-cond (eqb k from_clause) _ _ tt
    (fine-cond (eqb k select_clause) _ _ tt
    (fine-cond (eqb k settings_clause) _ _ tt
    (fine-cond (eqb k format_clause) _ None tt tt))))

fine-past : (o : ℕ) (c : Option Clause) → Fine (past_end o c)
unfolding past_end Fine
fine-past o None = tt
fine-past o (Some c) = fine-cond (ltb c.end o) (past_clause c.kind) None (fine-clause c.kind) tt

fine-trailing : (t : List ℕ) (o : ℕ) (b : Option Rec) → Fine (trailing_in t o b)
unfolding trailing_in Fine
fine-trailing t o None = tt
fine-trailing t o (Some r) = fine-past o _

-- ---- the context

module _ (src t : List ℕ) (o : ℕ) (near : (i : ℕ) → Every Near (inside t i)) where
  fine-path : (c : Bool) (p : List Rec) → Fine (by_path src t o c p)
  unfolding by_path Fine
  fine-path c [] = tt
  fine-path c (r ∷ l) = fine-else (by_path src t o c l) _ (fine-path c l) (fine-ruled r.kind _ (gives-rules src o (seen t c r l) (near r.index)))

  ranged-last : Ranged (last_rule src t o)
  unfolding last_rule Ranged
  ranged-last = ranged-cond (eqb (kind_at t 0) file && starts_after src (last_two o (inside t 0)).last) StatementStart Unknown tt tt

  ranged-context : Ranged (context_at src t o)
  unfolding context_at
  ranged-context =
      search (ranged-given, ranged-last, fine-path (on_path join_constraint (path_at t o)) (path_at t o), fine-trailing t o (deepest trails (path_at t o)))

pub given-ranged : (src t : List ℕ) (n o : ℕ) → verdict t n 0 ≡ Ok tt → Ranged (context_at src t o)
unfolding record_at
given-ranged src t n o v = ranged-context src t o (every-inside Near t 0 near)
  where
    y : Tidy t n
    y = admitted-tidy t n 0 v

    near : (j : ℕ) → j < count t → last_node < kind_at t j → start_at t j < 4294967295
    near j h k = ⊎_elim (λ a. absurd (omega arith)) (λ a. let s = y.spans j h a in omega (arith, y.short)) (y.kinds j h)

pub given-apart : (src src' t t' : List ℕ) (n n' o o' : ℕ) → verdict t n 0 ≡ Ok tt → verdict t' n' 0 ≡ Ok tt
    → coded (context_at src t o) ≡ coded (context_at src' t' o') → context_at src t o ≡ context_at src' t' o'
given-apart src src' t t' n n' o o' v v' e = tells-apart _ _ (given-ranged src t n o v) (given-ranged src' t' n' o' v') e
