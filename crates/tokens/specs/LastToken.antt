-- Document 01, Cursor, "Last token" and "Dotted".
-- Definitions only.
use Rattle.std.specs.Prelude.{ℕ, Bool, false, cond, not, ◌&&◌, ◌||◌, List, [], ◌∷◌, leb, ltb, eqb, Option, None, Some}
use Rattle.records.specs.declared.range.Range.{Range}
use Rattle.records.specs.declared.record.Rec.{Rec}
use Rattle.records.specs.Kinds.{whitespace, comment}
use Rattle.forest.specs.Forest.{Forest}
use Rattle.forest.specs.Tokens.{reached}
use Rattle.text.specs.Text.{text, bytes_of, same, says}
use Rattle.tokens.specs.declared.last_token.LastTwo.{LastTwo}

-- the range of a token, as a name
abbrev pub named : Rec → Option Range
named r = Some (record { start = r.start; end = r.end })

-- a token of this kind and start counts: it starts at or before the offset, and is no Whitespace and no Comment
abbrev pub counted : ℕ → ℕ → ℕ → Bool
counted o k s = leb s o && not (eqb k whitespace || eqb k comment)

-- a node of this span is gone into: it is not empty, and starts at or before the offset
abbrev pub entered : ℕ → ℕ → ℕ → Bool
entered o s e = not (ltb e s) && leb s o

-- the reading: the tokens that count, in order, reached only through such nodes
abbrev pub reading : ℕ → Forest → List Rec
reading o f = reached (λ r. counted o r.kind r.start) (λ r. entered o r.start r.end) f

-- the last of a list of tokens, or the one that is given
unfoldable pub last_or : Option Range → List Rec → Option Range
last_or best [] = best
last_or best (r ∷ rs) = last_or (named r) rs

-- a list without its last
unfoldable pub init : List Rec → List Rec
init [] = []
init (r ∷ []) = []
init (r ∷ (q ∷ rs)) = r ∷ init (q ∷ rs)

-- the last token, and the one that precedes it in the reading
unfoldable pub last_two : ℕ → Forest → LastTwo
last_two o f = record { last = last_or None (reading o f); before = last_or None (init (reading o f)) }

-- there is a token, and its text is w
unfoldable pub is_text : List ℕ → List ℕ → Option Range → Bool
is_text w src None = false
is_text w src (Some r) = same (text src r.start r.end) w

-- there is a token, and its text is the upper-case word w in any ASCII case
unfoldable pub is_word : List ℕ → List ℕ → Option Range → Bool
is_word w src None = false
is_word w src (Some r) = says w (text src r.start r.end)

-- `.` and `;`
abbrev pub dot : List ℕ
dot = 46 ∷ []

abbrev pub semicolon : List ℕ
semicolon = 59 ∷ []

-- dotted: the last token's text is `.` and a token precedes it: the name is that token's
unfoldable pub dotted : List ℕ → LastTwo → Option Range
dotted src two = cond (is_text dot src two.last) two.before None

-- the last token is ON or USING
unfoldable pub is_join_word : List ℕ → LastTwo → Bool
is_join_word src two = is_word (bytes_of "ON") src two.last || is_word (bytes_of "USING") src two.last
