-- Document 02, §4: the WITH names that are offered at a root.
-- src is the source's bytes, t the table's, n the number of the inner query's record.
-- Definitions only.
use Rattle.std.specs.Prelude.{ℕ, List, [], ◌∷◌, ◌++◌}
use Rattle.names.specs.declared.names.NameBinding.{NameBinding}
use Rattle.lists.specs.Scope.{with_names}
use Rattle.seen.specs.Seen.{seen_of}
use Rattle.enclosing.specs.Enclosing.{enclosing_roots}

-- those of some roots, one list behind the other
unfoldable pub seen_of_all : List ℕ → List ℕ → ℕ → List ℕ → List NameBinding
seen_of_all src t n [] = []
seen_of_all src t n (i ∷ is) = seen_of src t n i ++ seen_of_all src t n is

-- the WITH names that are offered at the root n: its own, then those that it sees of each enclosing root, nearest first
unfoldable pub offered_in : List ℕ → List ℕ → ℕ → List NameBinding
offered_in src t n = with_names src t n ++ seen_of_all src t n (enclosing_roots t n)
