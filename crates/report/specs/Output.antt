-- Document 01, Worked by hand: what glance prints.
-- Definitions only.
use Rattle.lent.specs.declared.refusal.Condition.TheVariants.{NoRoom}
use Rattle.std.specs.Prelude.{ℕ, List, [], ◌∷◌, ◌++◌, map, length, ltb, Ok, Err}
use Rattle.lent.specs.Verdicts.{Rule, rule, first, number_of, Verdict}
use Rattle.table.specs.Rules.{root_rules}
use Rattle.lent.specs.Lists.{list_bytes}
use Rattle.references.specs.declared.pending.TableRef.{TableRef}
use Rattle.class_list.specs.Classes.{class_row as class_row, classes_of}
use Rattle.brackets.specs.Brackets.{opener_row as opener_row, openers_left}
use Rattle.references.specs.References.{reference_row}
use Rattle.lists.specs.Scope.{table_refs}
use Rattle.statement.specs.Statement.{enclosing_at}
use Rattle.cursor.specs.CursorContext.{context_at}
use Rattle.print.specs.Printed.{letter_t, letter_k, letter_o, printed_list, context_line, statement_line, end_line, refusal_line}

-- ---- the lists

-- T: references of record 0, a line each, fields as in the entry
abbrev pub reference_lines : List ℕ → List ℕ → List ℕ
reference_lines src t = printed_list letter_t 1 (map reference_row (table_refs src t 0))

-- K: classes, likewise
abbrev pub class_lines : List ℕ → List ℕ → List ℕ
class_lines src t = printed_list letter_k 3 (map class_row (classes_of src t))

-- O: the record of an opener left, a line each
abbrev pub opener_lines : List ℕ → List ℕ
opener_lines t = printed_list letter_o 1 (map opener_row (openers_left t))

-- ---- the whole text

-- the answer for a table, a source and an offset, where the references are these lines
abbrev pub answered_by : List ℕ → List ℕ → ℕ → List ℕ → List ℕ
answered_by src t o refs =
    context_line (context_at src t o) ++ statement_line (enclosing_at t o) ++ refs ++ class_lines src t ++ opener_lines t ++ end_line

-- the answer, with the lines of record 0's references
unfoldable pub answer_text : List ℕ → List ℕ → ℕ → List ℕ
answer_text src t o = answered_by src t o (reference_lines src t)

-- how many bytes of room the reference list has
abbrev pub reference_room : ℕ
reference_room = 16384

-- 7: the reference list needs more
abbrev pub reference_rule : List TableRef → Rule
reference_rule refs = rule NoRoom (length refs) (ltb reference_room (length (list_bytes reference_row refs)))

-- the verdict on a source and a table: document 01's order, with record 0 as the root
unfoldable pub question_verdict : List ℕ → List ℕ → Verdict
question_verdict src t = first (root_rules t (length src) 0 ++ reference_rule (table_refs src t 0) ∷ [])

-- a refusal prints `R number detail` alone
unfoldable pub unless_refused : Verdict → List ℕ → List ℕ
unless_refused (Ok _) text = text
unless_refused (Err r) text = refusal_line (number_of r.condition) r.detail

-- what is printed for a table, a source and an offset
abbrev pub replied : List ℕ → List ℕ → ℕ → List ℕ
replied src t o = unless_refused (question_verdict src t) (answer_text src t o)
