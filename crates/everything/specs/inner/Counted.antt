-- The entry of everything at a cursor by its parts, as the code puts it together. A reader of the promise needs none of it.
-- Definitions only.
use Rattle.std.specs.Prelude.{ℕ, List, [], ◌∷◌, ◌++◌}
use Rattle.contexts.specs.declared.context.CursorContext.{CursorContext}
use Rattle.contexts.specs.Context.{context_row}
use Rattle.rooms.specs.declared.rooms.Counts.{Counts}

-- the entry, by its parts
abbrev pub counted_row : CursorContext → ℕ → Counts → List ℕ
counted_row x n c = context_row x ++ n ∷ c.names ∷ c.aliases ∷ c.columns ∷ c.refs ∷ []
