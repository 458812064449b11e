-- The way down from siblings: the first node that is taken, the first such node below it, and so on.
-- Definitions only.
use Rattle.std.specs.Prelude.{Bool, cond, List, [], ◌∷◌}
use Rattle.records.specs.declared.record.Rec.{Rec}
use Rattle.forest.specs.Forest.{Forest, nil, token, node, kids}

-- the nodes on the way
unfoldable pub path : (Rec → Bool) → Forest → List Rec
path takes nil = []
path takes (token r rest) = path takes rest
path takes (node r below rest) =
    let down : List Rec = r ∷ path takes below in
    let on : List Rec = path takes rest in
    cond (takes r) down on

-- the children of the last node on the way, or here where no node is taken
unfoldable pub innermost : (Rec → Bool) → Forest → Forest → Forest
innermost takes here nil = here
innermost takes here (token r rest) = innermost takes here rest
innermost takes here (node r below rest) =
    let down : Forest = innermost takes below below in
    let on : Forest = innermost takes here rest in
    cond (takes r) down on

-- the way from the first record, which is on it whatever it is
unfoldable pub path_of : (Rec → Bool) → List Rec → List Rec
path_of takes [] = []
path_of takes (r ∷ rs) = r ∷ path takes (kids (r ∷ rs))

-- the children of the last node on it
unfoldable pub innermost_of : (Rec → Bool) → List Rec → Forest
innermost_of takes rs = innermost takes (kids rs) (kids rs)

-- what is gathered along a list, where g is gathered before it
unfoldable pub along : {G : Type 0} → (G → Rec → G) → G → List Rec → G
along step g [] = g
along step g (r ∷ rs) = along step (step g r) rs
