-- How the code holds the keywords: their bytes end to end, the shorter words first, and where the words of each length and first letter start.
use Rattle.std.specs.Prelude.{ℕ, ◌+◌, ◌-◌, ◌*◌, ◌/◌, ◌%◌, ◌≡◌, refl, Bool, true, cond, ◌&&◌, ◌||◌, eqb, leb, length, get_or, take, drop}
use mathlib.Core.List.{List, [], ◌∷◌, map, flatten}
use Rattle.keywords.specs.Keywords.{keywords}
use Rattle.text.specs.Text.{bytes_of, upper}

-- the fewest bytes that a keyword has
abbrev pub shortest : ℕ
shortest = 2

-- the most bytes that a keyword has
abbrev pub longest : ℕ
longest = 12

-- the lengths that keywords have
abbrev pub lengths : List ℕ
lengths = 2 ∷ 3 ∷ 4 ∷ 5 ∷ 6 ∷ 7 ∷ 8 ∷ 9 ∷ 10 ∷ 11 ∷ 12 ∷ []

-- the letters A to Z
abbrev pub alphabet : List ℕ
alphabet =
    65 ∷ 66 ∷ 67 ∷ 68 ∷ 69 ∷ 70 ∷ 71 ∷ 72 ∷ 73 ∷ 74 ∷ 75 ∷ 76 ∷ 77 ∷ 78 ∷ 79 ∷ 80 ∷ 81 ∷ 82 ∷ 83 ∷ 84 ∷ 85 ∷ 86 ∷ 87 ∷ 88 ∷ 89 ∷ 90 ∷ []

-- a byte is one of them
abbrev pub letter : ℕ → Bool
letter b = leb 65 b && leb b 90

-- a word has no other bytes
abbrev pub letters : List ℕ → Bool
letters [] = true
letters (b ∷ w) = letter b && letters w

-- a byte r that stands in for the upper case of b where a letter is compared with it: where one of them is a letter they are the same
pub record Folds (b r : ℕ) : Type 0 where
  pub so : (letter r || letter (upper b)) ≡ true → r ≡ upper b

-- the words of a list that have n bytes
abbrev pub of_length : ℕ → List (List ℕ) → List (List ℕ)
of_length n [] = []
of_length n (w ∷ ws) = let r = of_length n ws in cond (eqb (length w) n) (w ∷ r) r

-- the words of a list that begin with the byte c
abbrev pub beginning : ℕ → List (List ℕ) → List (List ℕ)
beginning c [] = []
beginning c (w ∷ ws) = let r = beginning c ws in cond (eqb (get_or w 0 0) c) (w ∷ r) r

-- the keywords that have n bytes, in the list's order
abbrev pub keywords_of : ℕ → List (List ℕ)
keywords_of n = of_length n (map bytes_of keywords)

-- those of them that begin with c
abbrev pub keywords_with : ℕ → ℕ → List (List ℕ)
keywords_with n c = beginning c (keywords_of n)

-- the bytes of the keywords end to end, the shortest words first
unfoldable pub keyword_bytes : List ℕ
keyword_bytes = flatten (flatten (map keywords_of lengths))

-- where the words of each length start in it, by their first letter, A to Z, and where they end: a row a length
abbrev pub start_rows : List ℕ
start_rows =
    0 ∷ 2 ∷ 4 ∷ 4 ∷ 4 ∷ 4 ∷ 4 ∷ 4 ∷ 4 ∷ 12 ∷ 12 ∷ 12 ∷ 12 ∷ 12 ∷ 12 ∷ 16 ∷ 16 ∷ 16 ∷ 16 ∷ 16 ∷ 18 ∷ 18 ∷ 18 ∷ 18 ∷ 18 ∷ 18 ∷ 18 ∷
    18 ∷ 33 ∷ 33 ∷ 33 ∷ 39 ∷ 42 ∷ 45 ∷ 45 ∷ 45 ∷ 45 ∷ 45 ∷ 48 ∷ 48 ∷ 57 ∷ 60 ∷ 60 ∷ 60 ∷ 60 ∷ 63 ∷ 66 ∷ 69 ∷ 72 ∷ 72 ∷ 72 ∷ 72 ∷ 72 ∷ 72 ∷
    72 ∷ 80 ∷ 80 ∷ 92 ∷ 100 ∷ 104 ∷ 120 ∷ 120 ∷ 124 ∷ 128 ∷ 132 ∷ 136 ∷ 156 ∷ 164 ∷ 168 ∷ 172 ∷ 180 ∷ 180 ∷ 188 ∷ 216 ∷ 240 ∷ 244 ∷ 248 ∷ 256 ∷ 256 ∷ 256 ∷ 256 ∷
    256 ∷ 281 ∷ 286 ∷ 311 ∷ 316 ∷ 321 ∷ 346 ∷ 356 ∷ 356 ∷ 371 ∷ 371 ∷ 376 ∷ 386 ∷ 391 ∷ 396 ∷ 406 ∷ 406 ∷ 416 ∷ 431 ∷ 441 ∷ 446 ∷ 456 ∷ 456 ∷ 461 ∷ 461 ∷ 461 ∷ 461 ∷
    461 ∷ 473 ∷ 479 ∷ 503 ∷ 521 ∷ 539 ∷ 557 ∷ 575 ∷ 587 ∷ 605 ∷ 605 ∷ 605 ∷ 611 ∷ 629 ∷ 629 ∷ 641 ∷ 647 ∷ 647 ∷ 671 ∷ 701 ∷ 713 ∷ 725 ∷ 731 ∷ 737 ∷ 737 ∷ 737 ∷ 737 ∷
    737 ∷ 737 ∷ 744 ∷ 786 ∷ 793 ∷ 807 ∷ 814 ∷ 814 ∷ 814 ∷ 814 ∷ 814 ∷ 814 ∷ 814 ∷ 814 ∷ 821 ∷ 821 ∷ 835 ∷ 842 ∷ 870 ∷ 884 ∷ 884 ∷ 884 ∷ 884 ∷ 884 ∷ 884 ∷ 884 ∷ 884 ∷
    884 ∷ 884 ∷ 884 ∷ 892 ∷ 916 ∷ 932 ∷ 940 ∷ 948 ∷ 948 ∷ 956 ∷ 956 ∷ 956 ∷ 964 ∷ 972 ∷ 972 ∷ 988 ∷ 1012 ∷ 1012 ∷ 1028 ∷ 1036 ∷ 1044 ∷ 1052 ∷ 1052 ∷ 1052 ∷ 1052 ∷ 1052 ∷ 1052 ∷
    1052 ∷ 1052 ∷ 1052 ∷ 1052 ∷ 1061 ∷ 1070 ∷ 1088 ∷ 1088 ∷ 1088 ∷ 1106 ∷ 1106 ∷ 1106 ∷ 1106 ∷ 1106 ∷ 1106 ∷ 1106 ∷ 1124 ∷ 1124 ∷ 1133 ∷ 1133 ∷ 1142 ∷ 1151 ∷ 1151 ∷ 1151 ∷ 1151 ∷ 1151 ∷ 1151 ∷
    1151 ∷ 1151 ∷ 1151 ∷ 1161 ∷ 1171 ∷ 1171 ∷ 1171 ∷ 1171 ∷ 1171 ∷ 1181 ∷ 1181 ∷ 1181 ∷ 1181 ∷ 1181 ∷ 1181 ∷ 1181 ∷ 1201 ∷ 1201 ∷ 1211 ∷ 1211 ∷ 1211 ∷ 1211 ∷ 1211 ∷ 1211 ∷ 1211 ∷ 1211 ∷ 1211 ∷
    1211 ∷ 1211 ∷ 1211 ∷ 1211 ∷ 1233 ∷ 1233 ∷ 1233 ∷ 1244 ∷ 1244 ∷ 1255 ∷ 1255 ∷ 1255 ∷ 1255 ∷ 1266 ∷ 1266 ∷ 1266 ∷ 1288 ∷ 1288 ∷ 1288 ∷ 1288 ∷ 1299 ∷ 1299 ∷ 1299 ∷ 1299 ∷ 1299 ∷ 1299 ∷ 1299 ∷
    1299 ∷ 1299 ∷ 1299 ∷ 1299 ∷ 1311 ∷ 1311 ∷ 1311 ∷ 1311 ∷ 1323 ∷ 1323 ∷ 1323 ∷ 1323 ∷ 1323 ∷ 1335 ∷ 1335 ∷ 1335 ∷ 1335 ∷ 1335 ∷ 1335 ∷ 1335 ∷ 1335 ∷ 1347 ∷ 1347 ∷ 1347 ∷ 1347 ∷ 1347 ∷ 1347 ∷ []

-- how many numbers a row has, and all rows
abbrev pub row_cells : ℕ
row_cells = 27

abbrev pub cells : ℕ
cells = 297

-- a number's two bytes, the low one first
abbrev pub two_bytes : ℕ → List ℕ
two_bytes m = m % 256 ∷ m / 256 ∷ []

-- the rows one behind the other, two bytes a number
abbrev pub keyword_starts : List ℕ
keyword_starts = flatten (map two_bytes start_rows)

-- what a caller lends is the table: its bytes and its starts
pub record Lent (words starts : List ℕ) : Type 0 where
  pub bytes : words ≡ keyword_bytes
  pub places : starts ≡ keyword_starts

-- number i of the rows
abbrev pub cell_start : List ℕ → ℕ → ℕ
cell_start starts i = get_or starts (2 * i) 0 + 256 * get_or starts (2 * i + 1) 0

-- which of them says where the words of n bytes that begin with c start; the next says where they end
abbrev pub cell_of : ℕ → ℕ → ℕ
cell_of n c = row_cells * (n - shortest) + (c - 65)

-- the bytes that stand there
abbrev pub cell_bytes : ℕ → ℕ → List ℕ
cell_bytes n c =
    let from = get_or start_rows (cell_of n c) 0 in
    take (get_or start_rows (cell_of n c + 1) 0 - from) (drop from keyword_bytes)

-- the table is the list: at each length and letter it has the keywords of that length that begin with that letter
pub table-right : map (λ n. map (cell_bytes n) alphabet) lengths ≡ map (λ n. map (λ c. flatten (keywords_with n c)) alphabet) lengths
unfolding keyword_bytes flatten keywords bytes_of
table-right = refl
