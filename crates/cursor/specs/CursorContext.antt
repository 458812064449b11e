-- Document 01, Cursor: the context at an offset, and "Last".
-- Definitions only.
use Rattle.std.specs.Prelude.{ℕ, Bool, true, cond, ◌&&◌, List, eqb, Option, None, Some}
use Rattle.records.specs.declared.range.Range.{Range}
use Rattle.records.specs.declared.record.Rec.{Rec}
use Rattle.records.specs.Kinds.{file}
use Rattle.records.specs.Table.{kind_at}
use Rattle.contexts.specs.declared.context.CursorContext.{CursorContext}
use Rattle.contexts.specs.declared.context.CursorContext.TheVariants.{StatementStart, Unknown}
use Rattle.path.specs.Path.{path_at}
use Rattle.forest.specs.Forest.{inside}
use Rattle.tokens.specs.LastToken.{last_two, is_text, semicolon}
use Rattle.contexts.specs.Trailing.{trailing_rule}
use Rattle.contexts.specs.PathRules.{path_rule}

-- ---- the last rule

-- there is no such token, or its text is `;`
unfoldable pub starts_after : List ℕ → Option Range → Bool
starts_after src None = true
starts_after src (Some r) = is_text semicolon src (Some r)

-- rule 14: if record 0 is File and its last token is `;` or there is none, StatementStart; else Unknown
unfoldable pub last_rule : List ℕ → List ℕ → ℕ → CursorContext
last_rule src t o = cond (eqb (kind_at t 0) file && starts_after src (last_two o (inside t 0)).last) StatementStart Unknown

-- ---- the context

-- what an answer gives, or where it goes on the other
unfoldable pub given_or : CursorContext → Option CursorContext → CursorContext
given_or other None = other
given_or other (Some c) = c

-- rule 1, then 2 to 13, then 14
unfoldable pub context_at : List ℕ → List ℕ → ℕ → CursorContext
context_at src t o =
    let p : List Rec = path_at t o in
    given_or (given_or (last_rule src t o) (path_rule src t o p)) (trailing_rule t o p)
