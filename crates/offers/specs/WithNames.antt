-- Document 02, §4: the WITH names at the cursor.
-- src is the source's bytes, t the table's, o the cursor's offset.
-- Definitions only.
use Rattle.std.specs.Prelude.{ℕ, List}
use Rattle.names.specs.declared.names.NameBinding.{NameBinding}
use Rattle.cursor_root.specs.Root.{root_at}
use Rattle.enclosing.specs.Offered.{offered_in}

-- the WITH list at the cursor
abbrev pub with_names_at : List ℕ → List ℕ → ℕ → List NameBinding
with_names_at src t o = offered_in src t (root_at t o)
