-- The rules over what the path gathered. A reader of the promise needs none of it.
-- Definitions only.
use Rattle.std.specs.Prelude.{ℕ, Bool, List, Option, None, Some}
use Rattle.records.specs.Table.{kind_at}
use Rattle.forest.specs.Forest.{inside}
use Rattle.path.specs.declared.gathered.Gathered.{Gathered}
use Rattle.path.specs.declared.gathered.Ruling.{Ruling}
use Rattle.path.specs.inner.Rules.{rule_number}
use Rattle.contexts.specs.declared.context.CursorContext.{CursorContext}
use Rattle.contexts.specs.inner.ByNumber.{trailing_from, given_by}
use Rattle.cursor.specs.CursorContext.{last_rule, given_or}

-- what the rule that decides gives at its node, if there is one
unfoldable pub told : List ℕ → List ℕ → ℕ → Bool → Option Ruling → Option CursorContext
told src t o constrained None = None
told src t o constrained (Some r) = Some (given_by src o constrained (rule_number r.rule) (kind_at t r.node) (inside t r.node))

-- what the path's rules give
unfoldable pub ruled_by : List ℕ → List ℕ → ℕ → Gathered → Option CursorContext
ruled_by src t o g = told src t o g.constrained g.ruling

-- the rules in their order
unfoldable pub analyzed : List ℕ → List ℕ → ℕ → Gathered → CursorContext
analyzed src t o g = given_or (given_or (last_rule src t o) (ruled_by src t o g)) (trailing_from t o g.statement)
