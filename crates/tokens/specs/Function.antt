-- Document 01, Cursor, "Function name" and "Argument index".
-- Definitions only.
use Rattle.std.specs.Prelude.{ℕ, ◌+◌, Bool, cond, not, ◌&&◌, ◌||◌, ltb, eqb, Option, None, Some, option_map, unwrap_or}
use Rattle.records.specs.declared.range.Range.{Range}
use Rattle.records.specs.Kinds.{function_call, aggregate_function, identifier, bare_word, comma, opening_round}
use Rattle.forest.specs.Forest.{Forest, nil, token, node}
use Rattle.forest.specs.Tokens.{reached}
use Rattle.forest.specs.Descent.{along}
use Rattle.tokens.specs.LastToken.{named}

-- ---- the function's name

-- the first direct BareWord
unfoldable pub bare_word_in : Forest → Option Range
bare_word_in nil = None
bare_word_in (token r rest) =
    let on : Option Range = bare_word_in rest in
    cond (eqb r.kind bare_word) (named r) on
bare_word_in (node r below rest) = bare_word_in rest

-- this name, or else that one
unfoldable pub or_name : Option Range → Option Range → Option Range
or_name None other = other
or_name (Some r) other = Some r

-- among children up to the first direct `(`, the first that is a BareWord or a child 46 with a direct BareWord; else none
unfoldable pub function_name : Forest → Option Range
function_name nil = None
function_name (token r rest) =
    let on : Option Range = function_name rest in
    let more : Option Range = cond (eqb r.kind opening_round) None on in
    cond (eqb r.kind bare_word) (named r) more
function_name (node r below rest) =
    let on : Option Range = function_name rest in
    let inner : Option Range = or_name (bare_word_in below) on in
    cond (eqb r.kind identifier) inner on

-- ---- the argument's index

-- a node is gone into: it is not empty, and no function's call
abbrev pub opens : ℕ → ℕ → ℕ → Bool
opens k s e = not (ltb e s) && not (eqb k function_call || eqb k aggregate_function)

-- what a token of kind k makes of the index, of which there is none before the first `(`: each `(` sets it to 0, each Comma after a `(` adds 1
unfoldable pub argued : Option ℕ → ℕ → Option ℕ
argued a k =
    let further : Option ℕ = option_map (λ n. n + 1) a in
    cond (eqb k opening_round) (Some 0) (cond (eqb k comma) further a)

-- over the tokens with start < offset
unfoldable pub arguments : ℕ → Forest → Option ℕ
arguments o f =
    along (λ a r. argued a r.kind) None
    (reached (λ r. ltb r.start o) (λ r. opens r.kind r.start r.end) f)

-- the argument's index: 0 where no `(` was met
abbrev pub argument_index : ℕ → Forest → ℕ
argument_index o f = unwrap_or (arguments o f) 0
