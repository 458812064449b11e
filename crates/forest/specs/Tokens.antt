-- The tokens among siblings and below them that are reached through the nodes that are gone into.
-- Definitions only.
use Rattle.std.specs.Prelude.{Bool, cond, List, [], ◌∷◌, ◌++◌}
use Rattle.records.specs.declared.record.Rec.{Rec}
use Rattle.forest.specs.Forest.{Forest, nil, token, node}

-- the tokens that are reached through entered nodes alone, in order
unfoldable pub tokens_of : (Rec → Bool) → Forest → List Rec
tokens_of enters nil = []
tokens_of enters (token r rest) = r ∷ tokens_of enters rest
tokens_of enters (node r below rest) =
    let inside : List Rec = tokens_of enters below in
    cond (enters r) inside [] ++ tokens_of enters rest

-- those records of a list that p holds of
unfoldable pub only : (Rec → Bool) → List Rec → List Rec
only p [] = []
only p (r ∷ rs) =
    let on : List Rec = only p rs in
    let more : List Rec = r ∷ on in
    cond (p r) more on

-- the tokens that count, of those that are reached
abbrev pub reached : (Rec → Bool) → (Rec → Bool) → Forest → List Rec
reached counts enters f = only counts (tokens_of enters f)
