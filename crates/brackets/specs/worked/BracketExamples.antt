-- Brackets and hints, computed.
use Rattle.std.specs.Prelude.{ℕ, ◌≡◌, refl, List, [], ◌∷◌, ◌++◌, Some, None}
use Rattle.lent.specs.Numbers.{word}
use Rattle.records.specs.Table.{record_at, run, from}
use Rattle.forest.specs.Forest.{level, kids}
use Rattle.text.specs.Text.{bytes_of}
use Rattle.table.specs.worked.Worked.{rec}
use Rattle.brackets.specs.Brackets.{fits, closed, stack_step, left, stack_left, openers_left, holding, last_opener, hint_of}

-- ---- brackets: `( ] )` leaves none; `( [ )` leaves both openers; a wrong closer does not empty the stack

abbrev brackets : List ℕ → List ℕ
brackets [] = []
brackets (k ∷ ks) = rec k 1 0 0 ++ brackets ks

abbrev page : List ℕ → List ℕ
page ks = rec 1 0 0 0 ++ brackets ks

pub pairs : openers_left (page (137 ∷ 141 ∷ 140 ∷ [])) ∷ openers_left (page (137 ∷ 138 ∷ 140 ∷ [])) ∷ openers_left (page (140 ∷ 139 ∷ [])) ∷ []
    ≡ [] ∷ (1 ∷ 2 ∷ []) ∷ (2 ∷ []) ∷ []
unfolding left stack_step closed fits kids level from run record_at word
pairs = refl

-- an opener inside a node, closed outside it
pub across : openers_left (rec 1 0 0 0 ++ rec 43 1 0 0 ++ rec 137 2 0 0 ++ rec 139 2 0 0 ++ rec 142 1 0 0) ≡ 2 ∷ []
unfolding left stack_step closed fits kids level from run record_at word
across = refl

-- ---- the hint: `)` before `]` before `}`, the last such opener, and none where there is no such opener, whatever others there are

abbrev unclosed : List ℕ
unclosed = page (137 ∷ 138 ∷ 137 ∷ 139 ∷ [])

pub hints :
    (hint_of (bytes_of "expected }, expected )") (stack_left unclosed) ≡ Some 3) × (hint_of (bytes_of "was expected ] here") (stack_left unclosed) ≡ Some 2)
    × (hint_of (bytes_of "expected }") (stack_left unclosed) ≡ Some 4) × (hint_of (bytes_of "expected )") (stack_left (page (138 ∷ []))) ≡ None)
    × (hint_of (bytes_of "expected") (stack_left unclosed) ≡ None) × (hint_of [] (stack_left unclosed) ≡ None)
unfolding hint_of last_opener holding bytes_of left stack_step closed fits kids level from run record_at word
hints = (refl, refl, refl, refl, refl, refl)
