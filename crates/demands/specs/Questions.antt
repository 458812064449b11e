-- Every question: what it is asked, and what documents 01 and 02 say to it.
-- Definitions only.
use Rattle.std.specs.Prelude.{ℕ, List, [], ◌∷◌, ◌++◌, map, length, drop, Option, Some, None}
use Rattle.lent.specs.Lists.{list_bytes}
use Rattle.forest.specs.Above.{above}
use Rattle.above.specs.Above.{above_row}
use Rattle.class_list.specs.Classes.{classes_of, class_row}
use Rattle.brackets.specs.Brackets.{openers_left, stack_left, hint_of, opener_row}
use Rattle.lists.specs.Scope.{with_names, table_aliases, column_aliases, table_refs}
use Rattle.names.specs.Bindings.{binding_row}
use Rattle.references.specs.References.{reference_row}
use Rattle.statement.specs.Statement.{enclosing_at}
use Rattle.contexts.specs.Context.{context_row}
use Rattle.cursor.specs.CursorContext.{context_at}
use Rattle.cursors.specs.Cursors.{contexts_at}
use Rattle.cursor_root.specs.Root.{root_at}
use Rattle.offers.specs.WithNames.{with_names_at}
use Rattle.replies.specs.Reply.{record_number}
use Rattle.demands.specs.declared.Question.{Question}
use Rattle.demands.specs.declared.Question.TheVariants.{Check, TokenClasses, OpenersLeft, BracketHint, WithNames, TableAliases, ColumnAliases, TableRefs, CursorContext, EnclosingStatement, CursorRoot, WithNamesAt, TableAliasesAt, ColumnAliasesAt, TableRefsAt, RecordsAbove, CursorContexts}

-- all that a question can be asked, and the buffer that it is lent
pub record Asked : Type 0 where
  pub table : List ℕ
  pub source : List ℕ
  pub message : List ℕ
  pub offset : ℕ
  pub offsets : List ℕ
  pub root : ℕ
  pub out : List ℕ

-- the same from its parts
abbrev pub asked : List ℕ → List ℕ → List ℕ → ℕ → List ℕ → ℕ → List ℕ → Asked
asked table source message offset offsets root out =
    record { table = table; source = source; message = message; offset = offset; offsets = offsets; root = root; out = out }

-- what there is to say: a number, or a list, of whose entries each is a row of numbers
pub data Said : Type 0 where
  number : ℕ → Said
  rows : List (List ℕ) → Said

-- what a question names: no record, a root, or a record of any kind
pub data Named : Type 0 where
  no_one : Named
  a-root : ℕ → Named
  a-record : ℕ → Named

-- what a question is about: how long the message is that it takes, and the offsets, which record it names, and what the documents say to it
pub record Matter : Type 0 where
  pub message : ℕ
  pub offsets : ℕ
  pub names : Named
  pub said : Said

-- a question that takes no message and no offsets and names no record; one that takes a message; one that takes offsets; one that names a root; one
-- that names a record of any kind
abbrev pub plain : Said → Matter
plain s = record { message = 0; offsets = 0; names = no_one; said = s }

abbrev pub of_message : List ℕ → Said → Matter
of_message m s = record { message = length m; offsets = 0; names = no_one; said = s }

abbrev pub of_offsets : ℕ → Said → Matter
of_offsets b s = record { message = 0; offsets = b; names = no_one; said = s }

abbrev pub of_root : ℕ → Said → Matter
of_root i s = record { message = 0; offsets = 0; names = a-root i; said = s }

abbrev pub of_record : ℕ → Said → Matter
of_record i s = record { message = 0; offsets = 0; names = a-record i; said = s }

-- a list of entries
abbrev pub list : {E : Type 0} → (E → List ℕ) → List E → Said
list row es = rows (map row es)

-- each question
unfoldable pub matter : Question → Asked → Matter
matter Check a = plain (number 0)
matter TokenClasses a = plain (list class_row (classes_of a.source a.table))
matter OpenersLeft a = plain (list opener_row (openers_left a.table))
matter BracketHint a = of_message a.message (number (record_number (hint_of a.message (stack_left a.table))))
matter WithNames a = of_root a.root (list binding_row (with_names a.source a.table a.root))
matter TableAliases a = of_root a.root (list binding_row (table_aliases a.source a.table a.root))
matter ColumnAliases a = of_root a.root (list binding_row (column_aliases a.source a.table a.root))
matter TableRefs a = of_root a.root (list reference_row (table_refs a.source a.table a.root))
matter CursorContext a = plain (list context_row (context_at a.source a.table a.offset ∷ []))
matter EnclosingStatement a = plain (number (record_number (enclosing_at a.table a.offset)))
matter CursorRoot a = plain (number (root_at a.table a.offset))
matter WithNamesAt a = plain (list binding_row (with_names_at a.source a.table a.offset))
matter TableAliasesAt a = plain (list binding_row (table_aliases a.source a.table (root_at a.table a.offset)))
matter ColumnAliasesAt a = plain (list binding_row (column_aliases a.source a.table (root_at a.table a.offset)))
matter TableRefsAt a = plain (list reference_row (table_refs a.source a.table (root_at a.table a.offset)))
matter RecordsAbove a = of_record a.root (list above_row (above a.table a.root))
matter CursorContexts a = of_offsets (length a.offsets) (list context_row (contexts_at a.source a.table a.offsets))

-- ---- what is said, as a reply

-- the answer's number: the number itself, or how many entries there are
unfoldable pub answer_of : Said → ℕ
answer_of (number n) = n
answer_of (rows rs) = length rs

-- the bytes of the entries
unfoldable pub said_bytes : Said → List ℕ
said_bytes (number n) = []
said_bytes (rows rs) = list_bytes (λ r. r) rs

-- a buffer with them from its first byte on, and the bytes behind them kept
abbrev pub written : Said → List ℕ → List ℕ
written s out = said_bytes s ++ drop (length (said_bytes s)) out
