-- Document 01's cases marked P as one table, computed from the definitions: the lines of a frame, and the lines that glance prints.
-- (Further rows stand beside the definitions below: table's Worked, scope's and cursor's examples.)
-- Assumes nothing.
use Rattle.std.specs.Prelude.{ℕ, zero, suc, ◌+◌, ◌-◌, ◌/◌, ◌%◌, ◌≡◌, refl, cond, List, [], ◌∷◌, ◌++◌, ltb}
use Prim.Native.String.{String}
use Rattle.lent.specs.Numbers.{word}
use Rattle.records.specs.Table.{record_at, run, from}
use Rattle.forest.specs.Forest.{level, kids, extent, stretch_end}
use Rattle.conditions.specs.Conditions.{misplaced, nearest, last_end, bad_span}
use Rattle.refusals.specs.ByRecord.{rules_from}
use Rattle.lent.specs.Lists.{row_bytes, list_bytes}
use Rattle.text.specs.Text.{text, bytes_of, upper, says}
use Rattle.forest.specs.Tokens.{only, tokens_of}
use Rattle.forest.specs.Descent.{path, path_of, along}
use Rattle.keywords.specs.Keywords.{is_keyword, keywords}
use Rattle.classes.specs.TokenClass.{between, judged, bareword, by_parent, class_of}
use Rattle.class_list.specs.Classes.{entry_of, classes}
use Rattle.brackets.specs.Brackets.{fits, closed, stack_step, left}
use Rattle.names.specs.Names.{is_as, is_part, is_name, direct, binding, first_named, last_named}
use Rattle.quotes.specs.Quotes.{unquoted, name_of}
use Rattle.collection.specs.Collection.{node_gives, collected, collection, own_with, own_columns, own_tables}
use Rattle.names.specs.Bindings.{entry, bound_in}
use Rattle.references.specs.References.{fresh}
use Rattle.tables.specs.Tables.{aliased, hand_on, list_alias, table_reading}
use Rattle.statement.specs.Statement.{or_else, first_find, enclosing_at}
use Rattle.path.specs.Path.{deepest_or, on_path, next_of, is_deepest, deepest_over}
use Rattle.tokens.specs.LastToken.{last_or, init, last_two, is_text, is_word, dotted, is_join_word}
use Rattle.tokens.specs.Function.{bare_word_in, or_name, function_name, argued, arguments}
use Rattle.contexts.specs.Trailing.{last_clause, past_clause, past_end, trailing_in}
use Rattle.contexts.specs.PathRules.{table_reference, joined, function_argument, column_or, column, path_rules, ruled, else_ask, by_path}
use Rattle.cursor.specs.CursorContext.{starts_after, last_rule, given_or, context_at}
use Rattle.contexts.specs.Context.{range_of, reference_number, coded}
use Rattle.lines.specs.Lines.{lf, begun, lines, is_digit, value, all_digits, is_hex, is_source, is_numbers, faulty, record_rules}
use Rattle.lines.specs.Frame.{spelt, pairs, first_bytes, fields_of}
use Rattle.print.specs.Printed.{digits, decimal, range, fields, ranges, printed, printed_list, context_line, statement_line}
use Rattle.report.specs.Output.{answer_text, question_verdict, unless_refused}
use Rattle.frame.specs.Glance.{replied_to, glanced}

-- ---- a case: an input, and what is printed for it

record Case : Type 0 where
  input : List ℕ
  prints : List ℕ

-- lines, an LF behind each
ended : List String → List ℕ
ended [] = []
ended (l ∷ ls) = bytes_of l ++ lf ∷ ended ls

abbrev frame : List String → List String → Case
frame input prints = record { input = ended input; prints = ended prints }

-- the worked frame's records
abbrev tree : List String
tree =
    "0100000000000000001400000000" ∷ "0401000000000000001400000000" ∷ "0f02000000000000000900000001" ∷ "8303000000000000000600000002"
    ∷ "8103000000060000000700000002" ∷ "2f03000000070000000900000002" ∷ "8304000000070000000800000005" ∷ "8004000000080000000900000005"
    ∷ "8102000000090000000a00000001" ∷ "10020000000a0000001400000001" ∷ "83030000000a0000000e00000009" ∷ "81030000000e0000000f00000009"
    ∷ "21030000000f0000001200000009" ∷ "83040000000f000000120000000c" ∷ "8103000000120000001300000009" ∷ "2303000000130000001400000009"
    ∷ "830400000013000000140000000f" ∷ []

-- what is printed for it below its first line
abbrev answers : List String
answers =
    "S 1" ∷ "T 12 - - - - 15 18 15 18 19 20 19 20" ∷ "K 0 6 0" ∷ "K 7 8 6" ∷ "K 10 14 0" ∷ "K 15 18 9" ∷ "K 19 20 9" ∷ "E" ∷ []

-- a byte as two digits
glyph : ℕ → ℕ
glyph d = cond (ltb d 10) (48 + d) (87 + d)

-- n nodes of kind 0, each below the one before it, from depth and number d on: all from 0 to 0
chain : ℕ → ℕ → List ℕ
chain d zero = []
chain d (suc n) =
    bytes_of "00" ++ glyph (d / 16) ∷ glyph (d % 16) ∷ bytes_of "0000000000000000000000" ++ glyph ((d - 1) / 16) ∷ glyph ((d - 1) % 16) ∷ lf ∷ chain (suc d) n

-- a frame of such nodes, with further records behind them
abbrev deep : ℕ → List String → List String → Case
deep n more prints = record { input = ended ("" ∷ "00000000" ∷ []) ++ chain 0 n ++ ended more; prints = ended prints }

cases : List Case
cases =
    -- this tree at 9 and at 10
    frame ("53454c45435420722e2046524f4d207261772072" ∷ "00000009" ∷ tree) ("C 3 7 8 0" ∷ answers)
    ∷ frame ("53454c45435420722e2046524f4d207261772072" ∷ "0000000a" ∷ tree) ("C 1 - - 0" ∷ answers)
    -- a lone File, empty: offset 0 gives 11
    ∷ frame ("" ∷ "00000000" ∷ "0100ffffffff0000000000000000" ∷ []) ("C 11 - - 0" ∷ "S -" ∷ "E" ∷ [])
    -- `( ] )` leaves none; `( [ )` leaves both openers
    ∷ frame
    ("285d29" ∷ "00000000"
    ∷ "0100000000000000000300000000" ∷ "8901000000000000000100000000" ∷ "8d01000000010000000200000000" ∷ "8c01000000020000000300000000" ∷ [])
    ("C 11 - - 0" ∷ "S -" ∷ "E" ∷ [])
    ∷ frame
    ("285b29" ∷ "00000000"
    ∷ "0100000000000000000300000000" ∷ "8901000000000000000100000000" ∷ "8a01000000010000000200000000" ∷ "8c01000000020000000300000000" ∷ [])
    ("C 11 - - 0" ∷ "S -" ∷ "O 1" ∷ "O 2" ∷ "E" ∷ [])
    -- three name parts give no reference: FROM a.b.c
    ∷ frame
    ("46524f4d20612e622e63" ∷ "00000000"
    ∷ "1000000000000000000a00000000" ∷ "8301000000000000000400000000" ∷ "2101000000050000000a00000000" ∷ "8302000000050000000600000002"
    ∷ "8002000000060000000700000002" ∷ "8302000000070000000800000002" ∷ "8002000000080000000900000002" ∷ "8302000000090000000a00000002" ∷ [])
    ("C 1 - - 0" ∷ "S -" ∷ "K 0 4 0" ∷ "K 5 6 9" ∷ "K 7 8 9" ∷ "K 9 10 9" ∷ "E" ∷ [])
    -- FROM a JOIN b
    ∷ frame
    ("46524f4d2061204a4f494e2062" ∷ "00000000"
    ∷ "1000000000000000000d00000000" ∷ "8301000000000000000400000000" ∷ "2101000000050000000600000000" ∷ "8302000000050000000600000002"
    ∷ "1101000000070000000d00000000" ∷ "8302000000070000000b00000004" ∷ "21020000000c0000000d00000004" ∷ "83030000000c0000000d00000006" ∷ [])
    ("C 1 - - 0" ∷ "S -" ∷ "T 2 - - - - 5 6 5 6 - - - -" ∷ "T 6 - - - - 12 13 12 13 - - - -" ∷ "T 6 - - - - 12 13 12 13 - - - -"
    ∷ "K 0 4 0" ∷ "K 5 6 9" ∷ "K 7 11 0" ∷ "K 12 13 9" ∷ "E" ∷ [])
    -- names with and without their quotes: FROM `d`."t" `r`
    ∷ frame
    ("46524f4d206064602e22742220607260" ∷ "00000000"
    ∷ "1000000000000000001000000000" ∷ "8301000000000000000400000000" ∷ "2101000000050000000c00000000" ∷ "8402000000050000000800000002"
    ∷ "8002000000080000000900000002" ∷ "8402000000090000000c00000002" ∷ "23010000000d0000001000000000" ∷ "84020000000d0000001000000006" ∷ [])
    ("C 1 - - 0" ∷ "S -" ∷ "T 2 5 8 6 7 9 12 10 11 13 16 14 15" ∷ "K 0 4 0" ∷ "K 5 8 9" ∷ "K 9 12 9" ∷ "K 13 16 9" ∷ "E" ∷ [])
    -- one-byte word is no keyword
    ∷ frame ("73" ∷ "00000000" ∷ "0100000000000000000100000000" ∷ "8301000000000000000100000000" ∷ []) ("C 11 - - 0" ∷ "S -" ∷ "E" ∷ [])
    -- depth 63 passes, 64 below a 63 is refusal 5, also with a wrong parent, and 4 below a token of depth 63; depth 3 below 1 is 4
    ∷ deep 64 [] ("C 12 - - 0" ∷ "S -" ∷ "E" ∷ [])
    ∷ deep 65 [] ("R 5 64" ∷ [])
    ∷ deep 64 ("0040000000000000000000000009" ∷ []) ("R 5 64" ∷ [])
    ∷ deep 63 ("833f00000000000000000000003e" ∷ "004000000000000000000000003f" ∷ []) ("R 4 64" ∷ [])
    ∷ frame ("" ∷ "00000000" ∷ "0100000000000000000000000000" ∷ "0001000000000000000000000000" ∷ "0003000000000000000000000000" ∷ []) ("R 4 2" ∷ [])
    -- token end at source length passes, one more is 6
    ∷ frame ("61" ∷ "00000000" ∷ "0100000000000000000100000000" ∷ "8501000000000000000100000000" ∷ []) ("C 11 - - 0" ∷ "S -" ∷ "K 0 1 3" ∷ "E" ∷ [])
    ∷ frame ("61" ∷ "00000000" ∷ "0100000000000000000100000000" ∷ "8501000000000000000200000000" ∷ []) ("R 6 1" ∷ [])
    -- a wrong parent is 12, after 4 and before 6 of its record; record 0 carries 0
    ∷ frame ("61" ∷ "00000000" ∷ "0100000000000000000100000000" ∷ "8501000000000000000200000001" ∷ []) ("R 12 1" ∷ [])
    ∷ frame ("61" ∷ "00000000" ∷ "0100000000000000000100000000" ∷ "8502000000000000000200000001" ∷ []) ("R 4 1" ∷ [])
    ∷ frame ("" ∷ "00000000" ∷ "0100000000000000000000000001" ∷ []) ("R 12 0" ∷ [])
    -- refusal 9: no input; only a source; no record; an upper-case digit; a CR; an empty line; a wrong length; before all others
    ∷ frame [] ("R 9 1" ∷ [])
    ∷ frame ("" ∷ []) ("R 9 2" ∷ [])
    ∷ frame ("" ∷ "00000000" ∷ []) ("R 9 3" ∷ [])
    ∷ frame ("6A" ∷ "00000000" ∷ "0100000000000000000000000000" ∷ []) ("R 9 1" ∷ [])
    ∷ record { input = bytes_of "6a" ++ 13 ∷ lf ∷ ended ("00000000" ∷ "0100000000000000000000000000" ∷ []); prints = ended ("R 9 1" ∷ []) }
    ∷ frame ("" ∷ "00000000" ∷ "" ∷ "0100000000000000000000000000" ∷ []) ("R 9 3" ∷ [])
    ∷ frame ("" ∷ "000000000" ∷ "0100000000000000000000000000" ∷ []) ("R 9 2" ∷ [])
    ∷ frame ("" ∷ "00000000" ∷ "ff00000000000000000000000000" ∷ "0" ∷ []) ("R 9 4" ∷ [])
    -- twenty digits, as document 01 prints a record without its parent
    ∷ frame ("53454c45435420722e2046524f4d207261772072" ∷ "00000009" ∷ "01000000000000000014" ∷ []) ("R 9 3" ∷ [])
    -- a last line without its LF
    ∷ record { input = ended ("" ∷ "00000000" ∷ []) ++ bytes_of "0100000000000000000000000000"; prints = ended ("R 9 3" ∷ []) }
    ∷ []

printing : List Case → List (List ℕ)
printing [] = []
printing (c ∷ cs) = glanced c.input ∷ printing cs

expecting : List Case → List (List ℕ)
expecting [] = []
expecting (c ∷ cs) = c.prints ∷ expecting cs

worked : printing cases ≡ expecting cases
unfolding printing expecting cases ended glyph chain word record_at run from level kids extent stretch_end misplaced nearest last_end bad_span rules_from row_bytes list_bytes text bytes_of upper says only tokens_of path path_of along is_keyword keywords between judged bareword by_parent class_of entry_of classes fits closed stack_step left is_as is_part is_name direct unquoted name_of binding first_named last_named node_gives collected collection entry bound_in fresh aliased hand_on list_alias table_reading own_with own_columns own_tables or_else first_find enclosing_at deepest_or on_path last_or init last_two is_text is_word dotted is_join_word bare_word_in or_name function_name argued arguments last_clause past_clause past_end trailing_in next_of is_deepest deepest_over table_reference joined function_argument column_or column path_rules ruled else_ask by_path starts_after last_rule given_or context_at range_of reference_number coded begun lines is_digit value all_digits is_hex is_source is_numbers faulty record_rules spelt pairs first_bytes fields_of digits decimal range fields ranges printed printed_list context_line statement_line answer_text question_verdict unless_refused replied_to
worked = refl
