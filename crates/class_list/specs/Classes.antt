-- Token classes: the list of document 01's section of that name.
-- Definitions only.
use Rattle.std.specs.Prelude.{ℕ, ◌*◌, List, [], ◌∷◌, ◌++◌, Option, Some, None}
use Rattle.records.specs.Table.{kind_at, records}
use Rattle.forest.specs.Forest.{Forest, nil, token, node, kids}
use Rattle.classes.specs.declared.token_class.TokenClass.{TokenClass}
use Rattle.classes.specs.TokenClass.{class_of, number_of}
use Rattle.class_list.specs.declared.class_list.ClassedToken.{ClassedToken}
use Rattle.lent.specs.Numbers.{number_bytes}

-- the entry of a token of this class; without one there is none
unfoldable pub entry_of : Option TokenClass → ℕ → ℕ → List ClassedToken
entry_of None start end = []
entry_of (Some c) start end = record { start = start; end = end; class = number_of c } ∷ []

-- the numbers of an entry: start, end, class
abbrev pub class_row : ClassedToken → List ℕ
class_row e = e.start ∷ e.end ∷ e.class ∷ []

-- how many bytes an entry takes
abbrev pub entry_bytes : ℕ
entry_bytes = 3 * number_bytes

-- every classed token among siblings and below them, in order, where p is the kind of the siblings' parent
unfoldable pub classes : List ℕ → ℕ → Forest → List ClassedToken
classes source p nil = []
classes source p (token r rest) = entry_of (class_of source p r.kind r.start r.end) r.start r.end ++ classes source p rest
classes source p (node r below rest) = classes source r.kind below ++ classes source p rest

-- every classed token of a table's tree
abbrev pub classes_of : List ℕ → List ℕ → List ClassedToken
classes_of source t = classes source (kind_at t 0) (kids (records 0 t))
