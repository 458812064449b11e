-- A rule by its number, and the trailing rule step by step. A reader of the promise needs none of it.
-- Definitions only.
use Rattle.std.specs.Prelude.{ℕ, Bool, cond, ◌&&◌, List, [], ◌∷◌, leb, eqb, Option, None, Some}
use Rattle.records.specs.Table.{kind_at, start_at, end_at}
use Rattle.forest.specs.Forest.{Forest, inside}
use Rattle.records.specs.Kinds.{is_node}
use Rattle.path.specs.Path.{Deepest}
use Rattle.contexts.specs.declared.context.CursorContext.{CursorContext}
use Rattle.contexts.specs.declared.context.CursorContext.TheVariants.{Unknown}
use Rattle.contexts.specs.declared.trailing.Clause.{Clause}
use Rattle.contexts.specs.Trailing.{last_clause, past_end}
use Rattle.contexts.specs.PathRules.{NodeRule, path_rules}

-- what the rule of number n gives
unfoldable pub gives : ℕ → List NodeRule → CursorContext
gives n [] = Unknown
gives n (r ∷ rs) = let on : CursorContext = gives n rs in cond (eqb n r.number) r.gives on

-- what the rule of number n gives at a node of kind k with these children
unfoldable pub given_by : List ℕ → ℕ → Bool → ℕ → ℕ → Forest → CursorContext
given_by src o constrained n k f = gives n (path_rules src o (record { kind = k; next = Deepest; children = f; constrained = constrained }))

-- the last clause after record i
unfoldable pub clause_at : List ℕ → ℕ → ℕ → Option Clause → Option Clause
clause_at s i o best = cond (is_node (kind_at s i) && leb (start_at s i) o) (Some (record { kind = kind_at s i; end = end_at s i })) best

-- the trailing rule, where the statement is told by its number, if there is one
unfoldable pub trailing_from : List ℕ → ℕ → Option ℕ → Option CursorContext
trailing_from t o None = None
trailing_from t o (Some n) = past_end o (last_clause o None (inside t n))
