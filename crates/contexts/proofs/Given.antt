-- What holds of every context that a rule can give holds of what the rules give, whatever it is that holds.
--     path-gives, trailing-gives     rules 2 to 13; rule 1
-- Assumes nothing.
use Prim.Native.Nat.{ℕ}
use mathlib.Core.Path.{◌≡◌, refl}
use mathlib.Core.Bool.{Bool, true, false, cond, ◌||◌}
use mathlib.Core.List.{List, [], ◌∷◌}
use lib.Dec.{ltb, eqb}
use Rattle.std.specs.Prelude.{Option, None, Some}
use Rattle.records.specs.declared.record.Rec.{Rec}
use Rattle.records.specs.declared.range.Range.{Range}
use Rattle.records.specs.Kinds.{select_clause, from_clause, prewhere_clause, where_clause, group_by_clause, having_clause, order_by_clause, settings_clause, format_clause}
use Rattle.forest.specs.Forest.{Forest, inside}
use Rattle.tokens.specs.LastToken.{last_two, dotted, is_join_word}
use Rattle.path.specs.Path.{one_of}
use Rattle.contexts.specs.declared.context.CursorContext.{CursorContext}
use Rattle.contexts.specs.declared.context.CursorContext.TheVariants.{SelectExpression, TableReference, ColumnOfTable, Expression, SettingName, EngineName, FormatName, DataType, CodecName, StatementStart}
use Rattle.contexts.specs.declared.trailing.Clause.{Clause}
use Rattle.contexts.specs.Trailing.{past_clause, past_end, trailing_in}
use Rattle.contexts.specs.PathRules.{NodeRule, table_reference, joined, function_argument, column_or, column, path_rules, ruled, else_ask, seen, by_path}

module _ (P : CursorContext → Type 0) where
  -- it holds of what an answer gives, if it gives anything
  unfoldable pub OnlyGives : Option CursorContext → Type 0
  OnlyGives None = Unit
  OnlyGives (Some c) = P c

  chosen : (b : Bool) (x y : CursorContext) → P x → P y → P (cond b x y)
  chosen true x y p q = p
  chosen false x y p q = q

  gives-chosen : (b : Bool) (x y : Option CursorContext) → OnlyGives x → OnlyGives y → OnlyGives (cond b x y)
  gives-chosen true x y p q = p
  gives-chosen false x y p q = q

  -- it holds of each context that has neither a name nor an index
  pub record OfPlain : Type 0 where
    pub select : P SelectExpression
    pub reference : P (TableReference None)
    pub expression : P Expression
    pub setting : P SettingName
    pub engine : P EngineName
    pub format : P FormatName
    pub type : P DataType
    pub codec : P CodecName
    pub statement : P StatementStart

  module _ (plain : OfPlain) where
    -- ---- rule 1

    clause-gives : (k : ℕ) → OnlyGives (past_clause k)
    unfolding past_clause OnlyGives
    clause-gives k =
        gives-chosen (one_of (prewhere_clause ∷ where_clause ∷ group_by_clause ∷ having_clause ∷ order_by_clause ∷ []) k) _ _ plain.expression
        (gives-chosen (eqb k from_clause) _ _ plain.reference
        (gives-chosen (eqb k select_clause) _ _ plain.select
        (gives-chosen (eqb k settings_clause) _ _ plain.setting
        (gives-chosen (eqb k format_clause) _ None plain.format tt))))

    past-gives : (o : ℕ) (c : Option Clause) → OnlyGives (past_end o c)
    unfolding past_end OnlyGives
    past-gives o None = tt
    past-gives o (Some c) = gives-chosen (ltb c.end o) (past_clause c.kind) None (clause-gives c.kind) tt

    pub trailing-gives : (t : List ℕ) (o : ℕ) (b : Option Rec) → OnlyGives (trailing_in t o b)
    unfolding trailing_in OnlyGives
    trailing-gives t o None = tt
    trailing-gives t o (Some r) = past-gives o _

    -- ---- rules 2 to 13

    else-gives : (x y : Option CursorContext) → OnlyGives x → OnlyGives y → OnlyGives (else_ask x y)
    unfolding else_ask
    else-gives None y p q = q
    else-gives (Some c) y p q = p

    unfoldable Each : List NodeRule → Type 0
    Each [] = Unit
    Each (r ∷ rs) = P r.gives × Each rs

    ruled-gives : (k : ℕ) (rs : List NodeRule) → Each rs → OnlyGives (ruled k rs)
    unfolding ruled Each OnlyGives
    ruled-gives k [] g = tt
    ruled-gives k (r ∷ rs) g = gives-chosen (one_of r.kinds k) _ (ruled k rs) (gives-chosen r.applies (Some r.gives) None g.0 tt) (ruled-gives k rs g.1)

    column-holds : (x : CursorContext) (n : Option Range) → P x → ((r : Range) → n ≡ Some r → P (ColumnOfTable r)) → P (column_or x n)
    unfolding column_or
    column-holds x None p q = p
    column-holds x (Some r) p q = q r refl

    -- what the rules give that has a name or an index: of the tokens inside a node
    module _ (src t : List ℕ) (o : ℕ) (reference : (i : ℕ) → P (table_reference src o (inside t i)))
        (qualified : (i : ℕ) (r : Range) → dotted src (last_two o (inside t i)) ≡ Some r → P (ColumnOfTable r))
        (function : (i : ℕ) → P (function_argument o (inside t i))) where
      rules-hold : (c : Bool) (r : Rec) (deeper : List Rec) → Each (path_rules src o (seen t c r deeper))
      unfolding path_rules Each joined column
      rules-hold c r deeper =
          let f : Forest = inside t r.index in
          let one : CursorContext = cond (eqb r.kind select_clause) SelectExpression Expression in
          let from = reference r.index in
          let join = chosen (is_join_word src (last_two o f) || c) Expression _ plain.expression from in
          let other = chosen (eqb r.kind select_clause) SelectExpression Expression plain.select plain.expression in
          let column = column-holds one _ other (qualified r.index) in
          (from, (join, (from, (plain.setting, (plain.engine, (plain.format, (plain.type, (plain.type, (plain.codec, (function r.index, (column, (plain.statement, tt))))))))))))

      pub path-gives : (c : Bool) (p : List Rec) → OnlyGives (by_path src t o c p)
      unfolding by_path OnlyGives
      path-gives c [] = tt
      path-gives c (r ∷ deeper) =
          else-gives (by_path src t o c deeper) _ (path-gives c deeper) (ruled-gives r.kind _ (rules-hold c r deeper))
