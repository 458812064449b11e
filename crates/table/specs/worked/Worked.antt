-- Worked cases of the check and of lists, computed: document 01's cases marked P that speak of them, and a row for each refusal and each detail.
use Rattle.lent.specs.declared.refusal.Condition.TheVariants.{BadLength, TooLong, UnlistedKind, Misplaced, BadSpan, NoRoom, NoRoot, BadOffsets, WrongParent}
use Rattle.std.specs.Prelude.{ℕ, ◌≡◌, refl, List, [], ◌∷◌, ◌++◌, replicate, eqb, Ok}
use Rattle.records.specs.Kinds.{file, select_statement, expression, other_token, whitespace, bare_word, arrow}
use Rattle.lent.specs.Numbers.{word, le4}
use Rattle.conditions.specs.Conditions.{misplaced, nearest, last_end, bad_span}
use Rattle.refusals.specs.ByRecord.{rules_from}
use Rattle.table.specs.Rules.{verdict, root_verdict, offset_verdict}
use Rattle.lent.specs.Verdicts.{rule, Verdict, refused as refusal}
use Rattle.lent.specs.Lists.{row_bytes, list_bytes, reply, buffer, listed, lent}

-- the twenty bytes of a record that carries the parent p
abbrev pub child : ℕ → ℕ → ℕ → ℕ → ℕ → List ℕ
child p k d s e = le4 k ++ le4 d ++ le4 s ++ le4 e ++ le4 p

-- of one that carries 0: record 0 and what is just below it, and every record of an example that no check reads
abbrev pub rec : ℕ → ℕ → ℕ → ℕ → List ℕ
rec k d s e = child 0 k d s e

-- a root, and below it a token, a node and a token below that
abbrev small : List ℕ
small = rec file 0 0 9 ++ rec bare_word 1 0 4 ++ rec select_statement 1 4294967295 0 ++ child 2 arrow 2 4 9

-- a case of the check: a table, the lengths of its source and of a message, and the verdict
record Case : Type 0 where
  table : List ℕ
  source : ℕ
  message : ℕ
  says : Verdict

abbrev on : List ℕ → ℕ → Verdict → Case
on t n v = record { table = t; source = n; message = 0; says = v }

cases : List Case
cases =
    -- depth 3 below 1 is 4 (tables of depth 63 and deeper: frame's Worked)
    on (rec file 0 0 0 ++ rec 0 1 0 0 ++ rec 0 3 0 0) 0 (refusal Misplaced 2) ∷
    -- a token that ends at the source's length passes, one more is 6
    on small 9 (Ok tt) ∷
    on small 8 (refusal BadSpan 3) ∷
    -- 1: no bytes, no whole record, over 4,096 records
    on [] 0 (refusal BadLength 0) ∷
    on (replicate 19 0) 0 (refusal BadLength 0) ∷
    on (replicate 21 0) 0 (refusal BadLength 0) ∷
    on (replicate 48 0) 0 (refusal BadLength 0) ∷
    on (replicate 81940 0) 0 (refusal BadLength 0) ∷
    -- 2: the source, the message; 1 comes before it
    on small 65536 (Ok tt) ∷
    on small 65537 (refusal TooLong 0) ∷
    record { table = small; source = 9; message = 4096; says = Ok tt } ∷
    record { table = small; source = 9; message = 4097; says = refusal TooLong 0 } ∷
    on [] 65537 (refusal BadLength 0) ∷
    -- 3: kinds that are not listed, and the last and first that are; 32 bits count
    on (rec 56 0 0 0) 0 (refusal UnlistedKind 0) ∷
    on (rec file 0 0 0 ++ rec 127 1 0 0) 0 (refusal UnlistedKind 1) ∷
    on (rec file 0 0 0 ++ rec 158 1 0 0) 0 (refusal UnlistedKind 1) ∷
    on (rec 257 0 0 0) 0 (refusal UnlistedKind 0) ∷
    on (rec 4294967295 0 0 0) 0 (refusal UnlistedKind 0) ∷
    on (rec expression 0 0 0 ++ rec other_token 1 0 0 ++ rec arrow 1 0 0) 0 (Ok tt) ∷
    -- 3 comes before 4, 5 and 6 of one record, and an earlier record before all
    on (rec file 0 0 0 ++ rec 158 0 2 1) 0 (refusal UnlistedKind 1) ∷
    on (rec file 0 0 0 ++ rec bare_word 1 2 1 ++ rec 56 1 0 0) 9 (refusal BadSpan 1) ∷
    -- 4: record 0 a token, or deep; a later depth 0; a record below a token
    on (rec bare_word 0 0 0) 0 (refusal Misplaced 0) ∷
    on (rec file 1 0 0) 0 (refusal Misplaced 0) ∷
    on (rec file 0 0 0 ++ rec file 0 0 0) 0 (refusal Misplaced 1) ∷
    on (rec file 0 0 0 ++ rec bare_word 1 0 0 ++ rec file 2 0 0) 0 (refusal Misplaced 2) ∷
    on (rec file 0 0 0 ++ rec file 257 0 0) 0 (refusal Misplaced 1) ∷
    -- 6: start > end; before the previous token's end, also past a node; a token of no length passes, and node spans hold any numbers
    on (rec file 0 0 0 ++ rec bare_word 1 2 1) 9 (refusal BadSpan 1) ∷
    on (rec file 0 0 0 ++ rec bare_word 1 0 5 ++ rec file 1 0 0 ++ child 2 bare_word 2 4 6) 9 (refusal BadSpan 3) ∷
    on (rec file 0 9 3 ++ rec bare_word 1 4 4 ++ rec whitespace 1 4 4) 4 (Ok tt) ∷
    -- 12: record 0 carries 0; a later record the nearest earlier one whose depth is one less, not the record before, not one before the nearest, no later one
    on (child 1 file 0 0 0) 0 (refusal WrongParent 0) ∷
    on (rec file 0 0 0 ++ rec bare_word 1 0 0 ++ child 1 bare_word 1 0 0) 0 (refusal WrongParent 2) ∷
    on (rec file 0 0 0 ++ rec file 1 0 0 ++ rec file 1 0 0 ++ child 1 file 2 0 0) 0 (refusal WrongParent 3) ∷
    on (rec file 0 0 0 ++ rec file 1 0 0 ++ child 2 file 2 0 0) 0 (refusal WrongParent 2) ∷
    on (rec file 0 0 0 ++ child 256 file 1 0 0) 0 (refusal WrongParent 1) ∷
    -- 12 comes after 3 and 4 of one record (after 5: frame's Worked), and before 6
    on (rec file 0 0 0 ++ child 9 158 1 0 0) 0 (refusal UnlistedKind 1) ∷
    on (rec file 0 0 0 ++ child 9 file 2 0 0) 0 (refusal Misplaced 1) ∷
    on (rec file 0 0 0 ++ child 9 bare_word 1 2 1) 9 (refusal WrongParent 1) ∷
    []

tells : List Case → List Verdict
tells [] = []
tells (c ∷ cs) = verdict c.table c.source c.message ∷ tells cs

expects : List Case → List Verdict
expects [] = []
expects (c ∷ cs) = c.says ∷ expects cs

the-check : tells cases ≡ expects cases
unfolding cases tells expects verdict rules_from misplaced nearest bad_span last_end word
the-check = refl

-- ---- 8, after 6: a node, a token, no record, and a table that is refused before

roots : root_verdict small 9 2 ∷ root_verdict small 9 3 ∷ root_verdict small 9 4 ∷ root_verdict small 8 4 ∷ [] ≡ Ok tt ∷ refusal NoRoot 0 ∷ refusal NoRoot 0 ∷ refusal BadSpan 3 ∷ []
unfolding root_verdict rules_from misplaced nearest bad_span last_end word
roots = refl

-- ---- 10, after 2 and before 3: no offsets, the most, one more, a part of one; with 1, with 2 and with 3

offsets : offset_verdict small 9 0 ∷ offset_verdict small 9 256 ∷ offset_verdict small 9 260 ∷ offset_verdict small 9 5 ∷ offset_verdict [] 9 5
    ∷ offset_verdict small 65537 5 ∷ offset_verdict (rec 56 0 0 0) 0 5 ∷ []
    ≡ Ok tt ∷ Ok tt ∷ refusal BadOffsets 0 ∷ refusal BadOffsets 0 ∷ refusal BadLength 0 ∷ refusal TooLong 0 ∷ refusal BadOffsets 0 ∷ []
unfolding offset_verdict rules_from misplaced nearest bad_span last_end word
offsets = refl

-- ---- 7, after all: two entries of two numbers, in seventeen bytes, sixteen and fifteen, and refused by another rule before

abbrev pair : ℕ → List ℕ
pair x = x ∷ 258 ∷ []

fits : (listed [] pair (1 ∷ 2 ∷ []) (replicate 17 9) ≡ Ok 2)
    × (lent [] pair (1 ∷ 2 ∷ []) (replicate 17 9) ≡ 1 ∷ 0 ∷ 0 ∷ 0 ∷ 2 ∷ 1 ∷ 0 ∷ 0 ∷ 2 ∷ 0 ∷ 0 ∷ 0 ∷ 2 ∷ 1 ∷ 0 ∷ 0 ∷ 9 ∷ [])
unfolding listed lent reply buffer list_bytes row_bytes
fits = (refl, refl)

full : listed [] pair (1 ∷ 2 ∷ []) (replicate 16 9) ≡ Ok 2
unfolding listed reply list_bytes row_bytes
full = refl

short : (listed [] pair (1 ∷ 2 ∷ []) (replicate 15 9) ≡ refusal NoRoom 2) × (lent [] pair (1 ∷ 2 ∷ []) (replicate 15 9) ≡ replicate 15 9)
unfolding listed lent reply buffer list_bytes row_bytes
short = (refl, refl)

refused : (listed (rule NoRoot 0 (eqb 1 1) ∷ []) pair (1 ∷ []) [] ≡ refusal NoRoot 0)
unfolding listed reply list_bytes row_bytes
refused = refl
