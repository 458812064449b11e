-- Document 01, Cursor, "Trailing rule first": the offset may stand past the end of a statement's last clause.
-- Definitions only.
use Rattle.std.specs.Prelude.{ℕ, cond, List, [], ◌∷◌, leb, ltb, eqb, Option, None, Some}
use Rattle.records.specs.declared.record.Rec.{Rec}
use Rattle.records.specs.Kinds.{select_clause, from_clause, prewhere_clause, where_clause, group_by_clause, having_clause, order_by_clause, settings_clause, format_clause}
use Rattle.forest.specs.Forest.{Forest, nil, token, node, inside}
use Rattle.contexts.specs.declared.context.CursorContext.{CursorContext}
use Rattle.contexts.specs.declared.context.CursorContext.TheVariants.{SelectExpression, TableReference, Expression, SettingName, FormatName}
use Rattle.contexts.specs.declared.trailing.Clause.{Clause}
use Rattle.path.specs.Path.{one_of, deepest, trails}

-- the last child node with start ≤ offset, where best is the last so far; empty nodes count
unfoldable pub last_clause : ℕ → Option Clause → Forest → Option Clause
last_clause o best nil = best
last_clause o best (token r rest) = last_clause o best rest
last_clause o best (node r below rest) = last_clause o (cond (leb r.start o) (Some (record { kind = r.kind; end = r.end })) best) rest

-- what a clause of kind k gives past its end
unfoldable pub past_clause : ℕ → Option CursorContext
past_clause k =
    cond (one_of (prewhere_clause ∷ where_clause ∷ group_by_clause ∷ having_clause ∷ order_by_clause ∷ []) k) (Some Expression)
    (cond (eqb k from_clause) (Some (TableReference None))
    (cond (eqb k select_clause) (Some SelectExpression)
    (cond (eqb k settings_clause) (Some SettingName)
    (cond (eqb k format_clause) (Some FormatName)
    None))))

-- if offset > its end
unfoldable pub past_end : ℕ → Option Clause → Option CursorContext
past_end o None = None
past_end o (Some c) = cond (ltb c.end o) (past_clause c.kind) None

-- of the statement that is the deepest on the path
unfoldable pub trailing_in : List ℕ → ℕ → Option Rec → Option CursorContext
trailing_in t o None = None
trailing_in t o (Some r) = past_end o (last_clause o None (inside t r.index))

-- rule 1
abbrev pub trailing_rule : List ℕ → ℕ → List Rec → Option CursorContext
trailing_rule t o p = trailing_in t o (deepest trails p)
