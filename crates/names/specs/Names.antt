-- Names in a source: which tokens are names, and what a node binds.
-- src is the source's bytes.
-- Definitions only.
use Rattle.std.specs.Prelude.{ℕ, Bool, cond, not, ◌&&◌, ◌||◌, List, [], ◌∷◌, eqb, Option, Some, None}
use Rattle.records.specs.declared.record.Rec.{Rec}
use Rattle.records.specs.Kinds.{bare_word, quoted_identifier}
use Rattle.forest.specs.Forest.{Forest, nil, token, node}
use Rattle.text.specs.Text.{bytes_of, text, says}
use Rattle.quotes.specs.declared.quotes.NameRanges.{NameRanges}
use Rattle.names.specs.declared.names.NameBinding.{NameBinding}
use Rattle.records.specs.Ranges.{span}
use Rattle.quotes.specs.Quotes.{name_of}

-- ---- which tokens are names

-- the token's text is AS in any ASCII case
unfoldable pub is_as : List ℕ → Rec → Bool
is_as src t = says (bytes_of "AS") (text src t.start t.end)

-- a part of a table's name is a BareWord or a Quoted
unfoldable pub is_part : Rec → Bool
is_part t = eqb t.kind bare_word || eqb t.kind quoted_identifier

-- a WITH name or an alias is a Quoted, or a BareWord that is not AS
unfoldable pub is_name : List ℕ → Rec → Bool
is_name src t = eqb t.kind quoted_identifier || (eqb t.kind bare_word && not (is_as src t))

-- the direct tokens of a node with these children that a test holds of, in order
unfoldable pub direct : (Rec → Bool) → Forest → List Rec
direct test nil = []
direct test (token t rest) =
    let on : List Rec = direct test rest in
    let more : List Rec = t ∷ on in
    cond (test t) more on
direct test (node r below rest) = direct test rest

-- ---- what a node binds

-- the name token t in the node r: its name's outer range, which is the token's, and its inner one; and the definition
unfoldable pub binding : List ℕ → Rec → Rec → NameBinding
binding src r t = record { token = (name_of src t).outer; name = (name_of src t).inner; definition = span r }

-- the name that is bound
abbrev pub bound_name : NameBinding → NameRanges
bound_name b = record { outer = b.token; inner = b.name }

-- the node r binds the first of these name tokens
unfoldable pub first_named : List ℕ → Rec → List Rec → Option NameBinding
first_named src r [] = None
first_named src r (t ∷ more) = Some (binding src r t)

-- the node r binds the last of these name tokens, or b where there is none
unfoldable pub last_named : List ℕ → Rec → Option NameBinding → List Rec → Option NameBinding
last_named src r b [] = b
last_named src r b (t ∷ more) = last_named src r (Some (binding src r t)) more

-- a WITH item r with these children: its first direct name
abbrev pub with_item : List ℕ → Rec → Forest → Option NameBinding
with_item src r below = first_named src r (direct (is_name src) below)

-- an alias r with these children: its last direct name
abbrev pub alias_in : List ℕ → Rec → Forest → Option NameBinding
alias_in src r below = last_named src r None (direct (is_name src) below)
