-- Every number of a context fits 32 bits, where the tree keeps document 01's limits and has few records.
--     plain_fits, reference-fits, qualified-fits, function-fits     what the rules give
-- Assumes nothing.
use Prim.Native.Nat.{ℕ, ◌+◌, ◌≤◌, ◌<◌}
use mathlib.Core.Path.{◌≡◌}
use mathlib.Core.Bool.{Bool, true, false, cond}
use mathlib.Core.List.{List, [], ◌∷◌}
use native.Mathlib.Omega.{arith}
use lib.Dec.{ltb, eqb}
use Rattle.std.specs.Prelude.{Option, None, Some, option_map, unwrap_or}
use Rattle.lent.specs.Fit32.{Fit32}
use Rattle.records.specs.declared.record.Rec.{Rec}
use Rattle.records.specs.declared.range.Range.{Range}
use Rattle.records.specs.Kinds.{bare_word, comma, opening_round, identifier}
use Rattle.conditions.specs.Conditions.{most_records}
use Rattle.records.specs.Table.{count}
use Rattle.forest.specs.Forest.{Forest, nil, token, node, inside}
use Rattle.forest.specs.Limits.{WithinSource, AllWithinSource, Limited}
use Rattle.forest.proofs.Limits.{reached-near, reached-few}
use Rattle.tokens.specs.LastToken.{named, reading, last_or, init, last_two, is_text, dot, dotted}
use Rattle.tokens.specs.Function.{bare_word_in, or_name, function_name, opens, argued, arguments, argument_index}
use Rattle.contexts.specs.declared.context.CursorContext.{CursorContext}
use Rattle.contexts.specs.declared.context.CursorContext.TheVariants.{TableReference, ColumnOfTable}
use Rattle.contexts.specs.Context.{range_of, reference_number, coded, context_row}
use Rattle.contexts.specs.PathRules.{table_reference, function_argument}
use Rattle.contexts.proofs.Given.{OfPlain}

abbrev pub ContextFits : CursorContext → Type 0
ContextFits c = Fit32 (context_row c)

-- ---- names

unfoldable NameFits : Option Range → Type 0
NameFits None = Unit
NameFits (Some r) = (r.start < 4294967296) × (r.end < 4294967296)

near_fits : (r : Rec) → WithinSource r → NameFits (named r)
unfolding NameFits
near_fits r h = (omega arith, omega arith)

name-chosen : (b : Bool) (x y : Option Range) → NameFits x → NameFits y → NameFits (cond b x y)
name-chosen true x y p q = p
name-chosen false x y p q = q

-- the last token and the one before it

last_fits : (best : Option Range) (rs : List Rec) → NameFits best → AllWithinSource rs → NameFits (last_or best rs)
unfolding last_or AllWithinSource
last_fits best [] h w = h
last_fits best (r ∷ rs) h w = last_fits (named r) rs (near_fits r w.0) w.1

init-near : (rs : List Rec) → AllWithinSource rs → AllWithinSource (init rs)
unfolding init AllWithinSource
init-near [] w = tt
init-near (r ∷ []) w = tt
init-near (r ∷ (q ∷ rs)) w = (w.0, init-near (q ∷ rs) w.1)

dotted-fits : (src : List ℕ) (o : ℕ) (f : Forest) → Limited f → NameFits (dotted src (last_two o f))
unfolding dotted last_two
dotted-fits src o f w =
    name-chosen (is_text dot src (last_or None (reading o f))) _ None (last_fits None (init (reading o f)) (unfold NameFits in tt) (init-near (reading o f) (reached-near _ _ f w))) (unfold NameFits in tt)

-- a function's name

or-fits : (x y : Option Range) → NameFits x → NameFits y → NameFits (or_name x y)
unfolding or_name
or-fits None y p q = q
or-fits (Some r) y p q = p

bare-fits : (f : Forest) → Limited f → NameFits (bare_word_in f)
unfolding bare_word_in Limited
bare-fits nil w = unfold NameFits in tt
bare-fits (token r rest) w = name-chosen (eqb r.kind bare_word) (named r) (bare_word_in rest) (near_fits r w.0.1) (bare-fits rest w.1)
bare-fits (node r below rest) w = bare-fits rest w.2

name-fits : (f : Forest) → Limited f → NameFits (function_name f)
unfolding function_name Limited
name-fits nil w = unfold NameFits in tt
name-fits (token r rest) w =
    name-chosen (eqb r.kind bare_word) (named r) _ (near_fits r w.0.1)
    (name-chosen (eqb r.kind opening_round) None (function_name rest) (unfold NameFits in tt) (name-fits rest w.1))
name-fits (node r below rest) w =
    name-chosen (eqb r.kind identifier) _ (function_name rest) (or-fits (bare_word_in below) (function_name rest) (bare-fits below w.1) (name-fits rest w.2)) (name-fits rest w.2)

-- ---- an argument's index

argued-one : (a : Option ℕ) (k : ℕ) → unwrap_or (argued a k) 0 ≤ unwrap_or a 0 + 1
unfolding argued
argued-one a k = go (eqb k opening_round) (eqb k comma) a
  where
    go : (b c : Bool) (a : Option ℕ) → unwrap_or (cond b (Some 0) (cond c (option_map (λ n. n + 1) a) a)) 0 ≤ unwrap_or a 0 + 1
    go true c a = omega arith
    go false true None = omega arith
    go false true (Some n) = omega arith
    go false false a = omega arith

index-few : (o : ℕ) (t : List ℕ) (i : ℕ) → argument_index o (inside t i) ≤ count t
unfolding arguments
index-few o t i =
    omega (arith, reached-few (λ a r. argued a r.kind) (λ a. unwrap_or a 0) (λ a r. argued-one a r.kind) (λ r. ltb r.start o) (λ r. opens r.kind r.start r.end) t i None)

-- ---- the contexts

row_fits : (k : ℕ) (n : Option Range) (i : ℕ) → k ≤ 12 → NameFits n → i < 4294967296 → Fit32 (k ∷ (range_of n).start ∷ (range_of n).end ∷ i ∷ [])
unfolding Fit32 range_of NameFits
row_fits k None i h p q = (omega arith, (omega arith, (omega arith, (q, tt))))
row_fits k (Some r) i h p q = (omega arith, (p.0, (p.1, (q, tt))))

pub plain_fits : OfPlain ContextFits
unfolding context_row coded reference_number NameFits
plain_fits =
    record {
      select = row_fits 0 None 0 (omega arith) tt (omega arith);
      reference = row_fits 1 None 0 (omega arith) tt (omega arith);
      expression = row_fits 4 None 0 (omega arith) tt (omega arith);
      setting = row_fits 5 None 0 (omega arith) tt (omega arith);
      engine = row_fits 6 None 0 (omega arith) tt (omega arith);
      format = row_fits 7 None 0 (omega arith) tt (omega arith);
      type = row_fits 8 None 0 (omega arith) tt (omega arith);
      codec = row_fits 9 None 0 (omega arith) tt (omega arith);
      statement = row_fits 11 None 0 (omega arith) tt (omega arith);
    }

table_fits : (n : Option Range) → NameFits n → ContextFits (TableReference n)
unfolding context_row coded reference_number
table_fits None h = row_fits 1 None 0 (omega arith) h (omega arith)
table_fits (Some r) h = row_fits 2 (Some r) 0 (omega arith) h (omega arith)

module _ (src t : List ℕ) (o : ℕ) (limited : (i : ℕ) → Limited (inside t i)) (few : count t ≤ most_records) where
  pub reference-fits : (i : ℕ) → ContextFits (table_reference src o (inside t i))
  unfolding table_reference
  reference-fits i = table_fits _ (dotted-fits src o (inside t i) (limited i))

  pub qualified-fits : (i : ℕ) (r : Range) → dotted src (last_two o (inside t i)) ≡ Some r → ContextFits (ColumnOfTable r)
  unfolding context_row coded
  qualified-fits i r e = row_fits 3 (Some r) 0 (omega arith) (rw e at (dotted-fits src o (inside t i) (limited i))) (omega arith)

  pub function-fits : (i : ℕ) → ContextFits (function_argument o (inside t i))
  unfolding function_argument context_row coded
  function-fits i = row_fits 10 (function_name (inside t i)) _ (omega arith) (name-fits (inside t i) (limited i)) (omega (arith, index-few o t i))
