-- Document 01, Worked by hand: the lines that glance prints, and the numbers and ranges in them.
-- Definitions only.
use Rattle.std.specs.Prelude.{ℕ, zero, suc, ◌+◌, ◌/◌, ◌%◌, cond, ◌&&◌, List, [], ◌∷◌, ◌++◌, take, drop, ltb, eqb, Option, Some, None}
use Rattle.text.specs.Text.{bytes_of}
use Rattle.records.specs.Ranges.{absent_number}
use Rattle.contexts.specs.declared.context.CursorContext.{CursorContext}
use Rattle.contexts.specs.Context.{coded}
use Rattle.lines.specs.Lines.{lf}

-- ---- the bytes that stand for themselves: a space, and the letters that begin the lines

abbrev pub space : ℕ
space = 32

abbrev pub letter_c : ℕ
letter_c = 67

abbrev pub letter_s : ℕ
letter_s = 83

abbrev pub letter_t : ℕ
letter_t = 84

abbrev pub letter_k : ℕ
letter_k = 75

abbrev pub letter_o : ℕ
letter_o = 79

abbrev pub letter_r : ℕ
letter_r = 82

-- ---- numbers and ranges

-- the digits of v in base ten, the most significant first: as many as it has, n at most
unfoldable pub digits : ℕ → ℕ → List ℕ
digits zero v = []
digits (suc n) v =
    let more : List ℕ = digits n (v / 10) ++ (48 + v % 10) ∷ [] in
    cond (ltb v 10) ((48 + v) ∷ []) more

-- numbers are decimal: v has at most v + 1 digits
unfoldable pub decimal : ℕ → List ℕ
decimal v = digits (suc v) v

-- a number after a space
abbrev pub field : ℕ → List ℕ
field v = space ∷ decimal v

-- an absent range is 4294967295 twice, and is printed as `- -`
unfoldable pub range : ℕ → ℕ → List ℕ
range s e = cond (eqb s absent_number && eqb e absent_number) (bytes_of " - -") (field s ++ field e)

-- some numbers; some ranges
unfoldable pub fields : List ℕ → List ℕ
fields [] = []
fields (v ∷ vs) = field v ++ fields vs

unfoldable pub ranges : List ℕ → List ℕ
ranges [] = []
ranges (s ∷ []) = []
ranges (s ∷ e ∷ vs) = range s e ++ ranges vs

-- ---- the lines

-- a line: its letter, its first n numbers, and ranges
unfoldable pub printed : ℕ → ℕ → List ℕ → List ℕ
printed letter n vs = letter ∷ fields (take n vs) ++ ranges (drop n vs) ++ lf ∷ []

-- a list, a line for each entry
unfoldable pub printed_list : ℕ → ℕ → List (List ℕ) → List ℕ
printed_list letter n [] = []
printed_list letter n (r ∷ rs) = printed letter n r ++ printed_list letter n rs

-- C: context, name range, argument index
unfoldable pub context_line : CursorContext → List ℕ
context_line c =
    letter_c ∷ field (coded c).number ++ range (coded c).name.start (coded c).name.end ++ field (coded c).index ++ lf ∷ []

-- S: statement record or `-`
unfoldable pub statement_line : Option ℕ → List ℕ
statement_line None = bytes_of "S -" ++ lf ∷ []
statement_line (Some n) = letter_s ∷ field n ++ lf ∷ []

-- E ends it
abbrev pub end_line : List ℕ
end_line = bytes_of "E" ++ lf ∷ []

-- R: a refusal's number and detail
abbrev pub refusal_line : ℕ → ℕ → List ℕ
refusal_line k d = letter_r ∷ field k ++ field d ++ lf ∷ []
