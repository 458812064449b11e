-- Document 02, §2: all cursors of a shared page. A list of offsets, a list of contexts: the single question's own, one by one.
-- Definitions only.
use Rattle.std.specs.Prelude.{ℕ, zero, suc, ◌+◌, ◌*◌, ◌/◌, List, [], ◌∷◌, map, length}
use Rattle.lent.specs.Numbers.{word}
use Rattle.conditions.specs.Conditions.{offset_bytes}
use Rattle.contexts.specs.declared.context.CursorContext.{CursorContext}
use Rattle.cursor.specs.CursorContext.{context_at}

-- n offsets of the bytes os, from offset i on: four bytes each, little-endian
unfoldable pub offsets_from : List ℕ → ℕ → ℕ → List ℕ
offsets_from os i zero = []
offsets_from os i (suc n) = word os (offset_bytes * i) ∷ offsets_from os (i + 1) n

-- the offsets: what is left of one is none
abbrev pub offsets_of : List ℕ → List ℕ
offsets_of os = offsets_from os 0 (length os / offset_bytes)

-- the context at each
abbrev pub contexts_at : List ℕ → List ℕ → List ℕ → List CursorContext
contexts_at src t os = map (context_at src t) (offsets_of os)
