-- What a turn of a loop over tokens does. A reader of the promises needs none of it.
-- Definitions only.
use Rattle.std.specs.Prelude.{ℕ, Bool, cond, List, eqb, ltb, Option, None, Some, option_map}
use Rattle.records.specs.declared.range.Range.{Range}
use Rattle.records.specs.Table.{kind_at, start_at, end_at, from}
use Rattle.forest.specs.Forest.{Forest, kids}
use Rattle.forest.specs.Tokens.{reached}
use Rattle.forest.specs.Descent.{along}
use Rattle.records.specs.Kinds.{opening_round, bare_word, identifier}
use Rattle.tokens.specs.declared.last_token.LastTwo.{LastTwo}
use Rattle.tokens.specs.declared.sought.Sought.{Sought}
use Rattle.tokens.specs.declared.sought.Sought.TheVariants.{LastToken, ArgumentIndex}
use Rattle.tokens.specs.declared.sought.Swept.{Swept}
use Rattle.tokens.specs.LastToken.{counted, entered}
use Rattle.tokens.specs.Function.{bare_word_in, opens, argued}

-- ---- what a turn of a loop does

-- one token on
abbrev pub pushed : LastTwo → ℕ → ℕ → LastTwo
pushed two s e = record { last = Some (record { start = s; end = e }); before = two.last }

-- a token of kind k and start s counts for what is sought
unfoldable pub counts_for : Sought → ℕ → ℕ → ℕ → Bool
counts_for LastToken o k s = counted o k s
counts_for ArgumentIndex o k s = ltb s o

-- a node of kind k, from s to e, is gone into for it
unfoldable pub enters_for : Sought → ℕ → ℕ → ℕ → ℕ → Bool
enters_for LastToken o k s e = entered o s e
enters_for ArgumentIndex o k s e = opens k s e

-- what is found in a reading: the last two tokens, and the argument's index
pub record Findings : Type 0 where
  pub two : LastTwo
  pub arguments : Option ℕ

-- what a token that counts makes of what was found
unfoldable pub turned : Sought → Findings → ℕ → ℕ → ℕ → Findings
turned LastToken f k s e = record { two = pushed f.two s e; arguments = f.arguments }
turned ArgumentIndex f k s e = record { two = f.two; arguments = argued f.arguments k }

-- nothing is found yet
abbrev pub nothing_found : Findings
nothing_found = record { two = record { last = None; before = None }; arguments = None }

-- what is found in the tokens that count and are reached
unfoldable pub swept : Sought → ℕ → Forest → Findings
swept x o f =
    along (λ w r. turned x w r.kind r.start r.end) nothing_found
    (reached (λ r. counts_for x o r.kind r.start) (λ r. enters_for x o r.kind r.start r.end) f)

-- ---- what the loop carries: a token by its record's number

-- the range of record i
unfoldable pub name_at : List ℕ → ℕ → Range
name_at s i = record { start = start_at s i; end = end_at s i }

-- the token of that number, if there is one
unfoldable pub token_of : List ℕ → Option ℕ → Option Range
token_of s i = option_map (name_at s) i

-- what the loop's numbers stand for
unfoldable pub meant : List ℕ → Swept → Findings
meant s w = record { two = record { last = token_of s w.last; before = token_of s w.before }; arguments = w.arguments }

-- what token i of kind k, which counts, makes of them
unfoldable pub moved_to : Sought → Swept → ℕ → ℕ → Swept
moved_to LastToken w k i = record { last = Some i; before = w.last; arguments = w.arguments }
moved_to ArgumentIndex w k i = record { last = w.last; before = w.before; arguments = argued w.arguments k }

-- ---- the function's name

-- a name that is there is the function's
unfoldable pub naming : Option Range → Option (Option Range)
naming None = None
naming (Some r) = Some (Some r)

-- what a child of kind k, with this range and these children, says of the function's name
unfoldable pub naming_of : ℕ → Range → Forest → Option (Option Range)
naming_of k name below =
    cond (eqb k bare_word) (Some (Some name))
    (cond (eqb k opening_round) (Some None)
    (cond (eqb k identifier) (naming (bare_word_in below))
    None))

-- what record i says of it
abbrev pub naming_at : List ℕ → ℕ → ℕ → Option (Option Range)
naming_at s base i = naming_of (kind_at s i) (name_at s i) (kids (from s base i))
