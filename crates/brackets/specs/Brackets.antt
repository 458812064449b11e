-- Brackets: document 01's section of that name.
-- Definitions only.
use Rattle.std.specs.Prelude.{ℕ, Bool, cond, ◌&&◌, ◌||◌, ◌≡◌, List, [], ◌∷◌, ◌++◌, map, reverse, leb, eqb, length, take, Option, Some, None}
use Rattle.records.specs.declared.record.Rec.{Rec}
use Rattle.records.specs.Kinds.{opening_round, opening_square, opening_curly, closing_round, closing_square, closing_curly}
use Rattle.records.specs.Table.{records}
use Rattle.forest.specs.Forest.{Forest, nil, token, node, kids}
use Rattle.text.specs.Text.{bytes_of, same}

-- ---- the stack

-- a kind of opening bracket; a kind of closing bracket
abbrev pub is_opener : ℕ → Bool
is_opener k = leb opening_round k && leb k opening_curly

abbrev pub is_closer : ℕ → Bool
is_closer k = leb closing_round k && leb k closing_curly

-- a closer fits the opener of its shape
unfoldable pub fits : ℕ → ℕ → Bool
fits o c =
    (eqb o opening_round && eqb c closing_round)
    || (eqb o opening_square && eqb c closing_square)
    || (eqb o opening_curly && eqb c closing_curly)

-- a closer pops only a fitting top and is otherwise dropped
unfoldable pub closed : List Rec → ℕ → List Rec
closed [] c = []
closed (o ∷ stack) c = cond (fits o.kind c) stack (o ∷ stack)

-- each token does one step of the stack, whose top stands first: an opener is pushed, a closer closes
unfoldable pub stack_step : List Rec → Rec → List Rec
stack_step stack r = cond (is_opener r.kind) (r ∷ stack) (cond (is_closer r.kind) (closed stack r.kind) stack)

-- the stack after siblings and what is below them
unfoldable pub left : List Rec → Forest → List Rec
left stack nil = stack
left stack (token r rest) = left (stack_step stack r) rest
left stack (node r below rest) = left (left stack below) rest

-- the stack after a table's tree
abbrev pub stack_left : List ℕ → List Rec
stack_left t = left [] (kids (records 0 t))

-- ---- the answers

-- a record's number
abbrev pub index_of : Rec → ℕ
index_of r = r.index

-- openers left, in order, a record number each
abbrev pub openers_left : List ℕ → List ℕ
openers_left t = map index_of (reverse (stack_left t))

-- the numbers of an entry
abbrev pub opener_row : ℕ → List ℕ
opener_row i = i ∷ []

-- a message holds a word: it stands somewhere in it
unfoldable pub holding : List ℕ → List ℕ → Bool
holding w [] = same [] w
holding w (b ∷ m) = let on : Bool = holding w m in same (take (length w) (b ∷ m)) w || on

-- the same in plain words: the word stands in the message between two parts of it (`holding-plain` in proofs/BracketLaws.antt)
pub record StandsIn (w m : List ℕ) : Type 0 where
  pub before : List ℕ
  pub after : List ℕ
  pub is : m ≡ before ++ w ++ after

-- the last opener of this kind that is left: the nearest to the top
unfoldable pub last_opener : ℕ → List Rec → Option ℕ
last_opener k [] = None
last_opener k (o ∷ stack) = let on : (Option ℕ) = last_opener k stack in cond (eqb o.kind k) (Some o.index) on

-- for a message holding `expected )`, else `expected ]`, else `expected }`, the last such opener left, or none
unfoldable pub hint_of : List ℕ → List Rec → Option ℕ
hint_of m stack =
    cond (holding (bytes_of "expected )") m) (last_opener opening_round stack)
    (cond (holding (bytes_of "expected ]") m) (last_opener opening_square stack)
    (cond (holding (bytes_of "expected }") m) (last_opener opening_curly stack) None))
