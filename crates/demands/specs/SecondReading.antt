-- Demand 2, the Rust: over valid UTF-8, with tokens cut between characters, each answer equals the Rust's too; the Rust's one stop, at a lone quote
-- mark, is a listed difference (docs/DIFFERENCES.md).
-- `Agrees` has a line for each question: which functions of the Rust are asked (their transcriptions are the crate rust), of which tree, and how what
-- they give is told as a number or in rows. To three questions the Rust has no word, and nothing is claimed of them: whether a table is refused, the
-- cursor's root, and the records above a record. Of the WITH names at a cursor the root's own are compared, which come first.
-- Definitions only; the theorem is `second-reading` in proofs/SecondReading.antt.
use Rattle.std.specs.Prelude.{ℕ, ◌≡◌, true, List, [], ◌∷◌, ◌++◌, map}
use Rattle.records.specs.Table.{kind_at, record_at, records}
use Rattle.forest.specs.Forest.{Forest, kids}
use Rattle.brackets.specs.Brackets.{index_of, opener_row}
use Rattle.class_list.specs.Classes.{class_row}
use Rattle.names.specs.Bindings.{binding_row}
use Rattle.references.specs.declared.pending.TableRef.{TableRef}
use Rattle.references.specs.References.{reference_row}
use Rattle.contexts.specs.declared.context.CursorContext.{CursorContext as Context}
use Rattle.contexts.specs.Context.{context_row}
use Rattle.cursors.specs.Cursors.{offsets_of}
use Rattle.cursor_root.specs.Root.{root_at}
use Rattle.replies.specs.Reply.{packed, answered, record_number}
use Rattle.rust.specs.Rust.{Call, stops, gives, Askable}
use Rattle.rust.specs.BracketMatchingRs.{collect_brackets, enrich, hint}
use Rattle.rust.specs.SemanticTokensRs.{compute}
use Rattle.rust.specs.ScopeRs.{QueryScope, find_enclosing_statement, unquoted_at, any_lone, as_binding, Compared, compared, reference, found, scope_at}
use Rattle.rust.specs.CursorContextRs.{cursor_context, as_told}
use Rattle.demands.specs.declared.Question.{Question}
use Rattle.demands.specs.declared.Question.TheVariants.{Check, TokenClasses, OpenersLeft, BracketHint, WithNames, TableAliases, ColumnAliases, TableRefs, CursorContext, EnclosingStatement, CursorRoot, WithNamesAt, TableAliasesAt, ColumnAliasesAt, TableRefsAt, RecordsAbove, CursorContexts}
use Rattle.demands.specs.Questions.{Asked, Said, number, rows, list, matter, answer_of, written}
use Rattle.demands.specs.Demand1.{Holds}
use Rattle.demands.specs.Demand2.{Meets}

-- what is below record 0
abbrev pub tree : Asked → Forest
tree a = kids (records 0 a.table)

-- a call of the Rust gives something of which P is true
pub record Gave {A : Type 0} (run : Call A) (P : A → Type 0) : Type 0 where
  pub it : A
  pub gave : run ≡ gives it
  pub so : P it

-- of the root i: `build_scope` gives four lists of which P is true; or a lone quote mark is unquoted, and it stops
pub data Scoped (a : Asked) (i : ℕ) (P : QueryScope → Type 0) : Type 0 where
  lists : Gave (scope_at a.source a.table i) P → Scoped a i P
  lone-mark : any_lone a.source (unquoted_at a.source a.table i) ≡ true → scope_at a.source a.table i ≡ stops → Scoped a i P

-- `cursor_context` gives these contexts, as it tells them, at these offsets
unfoldable pub GaveEach : Asked → List ℕ → List Context → Type 0
GaveEach a [] [] = Unit
GaveEach a [] (c ∷ cs) = ⊥
GaveEach a (o ∷ os) [] = ⊥
GaveEach a (o ∷ os) (c ∷ cs) = (cursor_context (record_at a.table 0 0) (tree a) a.source o ≡ gives (as_told c)) × GaveEach a os cs

pub record Contexts (a : Asked) (os : List ℕ) (s : Said) : Type 0 where
  pub contexts : List Context
  pub given : GaveEach a os contexts
  pub rows_are : s ≡ list context_row contexts

-- what is said is a list of references; of their names the Rust has one range each (document 02 §3)
pub record Refers (s : Said) (rs : List Compared) : Type 0 where
  pub references : List TableRef
  pub compared-are : map compared references ≡ rs
  pub rows_are : s ≡ list reference_row references

-- what is said begins with these rows
pub record Begins (s : Said) (rs : List (List ℕ)) : Type 0 where
  pub more : List (List ℕ)
  pub rows_are : s ≡ rows (rs ++ more)

-- what is said to a question is what the Rust's functions give
unfoldable pub Agrees : Question → Asked → Said → Type 0
Agrees Check a s = Unit
Agrees TokenClasses a s = Gave (compute (kind_at a.table 0) (tree a) a.source) (λ cs. s ≡ list class_row cs)
Agrees OpenersLeft a s = s ≡ list opener_row (map index_of (collect_brackets (tree a) []))
Agrees BracketHint a s = s ≡ number (record_number (hint (enrich a.message (tree a))))
Agrees WithNames a s = Scoped a a.root (λ q. s ≡ list binding_row (map as_binding q.ctes))
Agrees TableAliases a s = Scoped a a.root (λ q. s ≡ list binding_row (map as_binding q.table_aliases))
Agrees ColumnAliases a s = Scoped a a.root (λ q. s ≡ list binding_row (map as_binding q.column_aliases))
Agrees TableRefs a s = Scoped a a.root (λ q. Refers s (map reference q.table_refs))
Agrees CursorContext a s = Contexts a (a.offset ∷ []) s
Agrees EnclosingStatement a s = s ≡ number (record_number (found (find_enclosing_statement (record_at a.table 0 0) (tree a) a.offset)))
Agrees CursorRoot a s = Unit
Agrees WithNamesAt a s = Scoped a (root_at a.table a.offset) (λ q. Begins s (map binding_row (map as_binding q.ctes)))
Agrees TableAliasesAt a s = Scoped a (root_at a.table a.offset) (λ q. s ≡ list binding_row (map as_binding q.table_aliases))
Agrees ColumnAliasesAt a s = Scoped a (root_at a.table a.offset) (λ q. s ≡ list binding_row (map as_binding q.column_aliases))
Agrees TableRefsAt a s = Scoped a (root_at a.table a.offset) (λ q. Refers s (map reference q.table_refs))
Agrees RecordsAbove a s = Unit
Agrees CursorContexts a s = Contexts a (offsets_of a.offsets) s

-- of a question, what it is asked, its reply and what is in the buffer afterwards: it is an answer that agrees with the Rust
pub record SecondReading (q : Question) (a : Asked) (reply : ℕ) (out : List ℕ) : Type 0 where
  pub said : Said
  pub agrees : Agrees q a said
  pub answer : reply ≡ packed answered (answer_of said)
  pub entries : out ≡ written said a.out

-- over valid UTF-8, with tokens cut between characters, where no refusal's condition holds
abbrev pub SecondReadings : Type 0
SecondReadings = (q : Question) (a : Asked) → Askable a.source a.table → ((k d : ℕ) → Holds a (matter q a) k d → ⊥) → (reply : ℕ) (out : List ℕ)
    → Meets q a reply out → SecondReading q a reply out
