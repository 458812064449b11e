-- On an admitted table every number of an entry, a record, a count fits 32 bits: what each question says fits, by the law of its list.
--     said_fits         of every question
--     kept              with the demands, as `ask` has them
--     entry-fits        of everything at a cursor
-- Assumes nothing.
use Prim.Native.Nat.{ℕ, ◌*◌, ◌/◌, ◌≤◌, ◌<◌}
use mathlib.Core.Path.{◌≡◌, refl, sym}
use mathlib.Core.List.{List, [], ◌∷◌, map}
use mathlib.Core.Logic.{inl, ⊎_elim}
use native.Mathlib.Omega.{arith}
use lib.ListN.{length, get_or, length-map}
use mir.Syntax.{w8}
use mir.Val.{Fits}
use Rattle.std.specs.Prelude.{Ok, Option, Some, None}
use Rattle.lent.specs.Numbers.{word_limit, OfBytes}
use Rattle.lent.specs.Fit32.{AllFit32}
use Rattle.lent.proofs.Cases.{lt-or-le}
use Rattle.records.specs.Table.{count}
use Rattle.conditions.specs.Conditions.{most_records, most_offsets, offset_bytes}
use Rattle.table.specs.Rules.{verdict}
use Rattle.table.specs.Exactly.{Broken, broken-1, broken-2, broken-3, broken-4, broken-5, broken-12, broken-6, BadOffsets}
use Rattle.table.proofs.Exactly.{admitted-exactly}
use Rattle.forest.specs.Above.{above}
use Rattle.forest.proofs.Sense.{admitted-tidy}
use Rattle.above.specs.Above.{above_row}
use Rattle.above.proofs.Fitting.{above-fits, above-few}
use Rattle.brackets.specs.Brackets.{openers_left, stack_left, hint_of, opener_row}
use Rattle.brackets.proofs.Fitting.{openers-fit, openers-few, hint-within}
use Rattle.statement.specs.Statement.{enclosing_at}
use Rattle.statement.proofs.Fitting.{statement-within}
use Rattle.names.specs.Bindings.{binding_row}
use Rattle.references.specs.References.{reference_row}
use Rattle.class_list.specs.Classes.{classes_of, class_row}
use Rattle.lists.specs.Scope.{with_names, table_aliases, column_aliases, table_refs}
use Rattle.scope.proofs.Fitting.{classes-fit, classes-few, references-fit, references-few, with-names-fit, with-names-few, table-aliases-fit, table-aliases-few, column-aliases-fit, column-aliases-few}
use Rattle.contexts.specs.Context.{context_row}
use Rattle.cursor.specs.CursorContext.{context_at}
use Rattle.cursor.proofs.Fitting.{context-fits}
use Rattle.cursors.specs.Cursors.{contexts_at}
use Rattle.cursors.proofs.Fitting.{contexts-fit, contexts-few}
use Rattle.cursor_root.specs.Root.{root_at}
use Rattle.cursor_root.proofs.RootLaws.{root-within}
use Rattle.offers.specs.WithNames.{with_names_at}
use Rattle.offers.proofs.Fitting.{offered-fit, offered-few}
use Rattle.everything.proofs.Fitting.{everything-fits}
use Rattle.replies.specs.Reply.{half, record_number}
use Rattle.demands.specs.declared.Question.{Question}
use Rattle.demands.specs.declared.Question.TheVariants.{Check, TokenClasses, OpenersLeft, BracketHint, WithNames, TableAliases, ColumnAliases, TableRefs, CursorContext, EnclosingStatement, CursorRoot, WithNamesAt, TableAliasesAt, ColumnAliasesAt, TableRefsAt, RecordsAbove, CursorContexts}
use Rattle.demands.specs.Questions.{Asked, number, a-root, a-record, Matter, list, matter}
use Rattle.demands.specs.Demand1.{Missing, of-table, of-offsets, of-name, Demand1}
use Rattle.demands.specs.Demand2.{Demand2}
use Rattle.demands.specs.Numbers.{Admits, SaidFits, Numbers, EntryFits}
use Rattle.demands.proofs.Replies.{Told, demanded}

-- ---- what is known where only the room may be wanting

not-seven : {t : List ℕ} {n m k d : ℕ} → Broken t n m k d → k ≡ 7 → ⊥
not-seven (broken-1 e z b) q = omega arith
not-seven (broken-2 e z b) q = omega arith
not-seven (broken-3 e h b) q = omega arith
not-seven (broken-4 e h b) q = omega arith
not-seven (broken-5 e h b) q = omega arith
not-seven (broken-12 e h b) q = omega arith
not-seven (broken-6 e h b) q = omega arith

module _ (a : Asked) (m : Matter) (h : Admits a m) where
  admitted : Ok tt ≡ verdict a.table (length a.source) m.message
  admitted = sym ((admitted-exactly a.table (length a.source) m.message).1 (λ k d b. not-seven b (h k d (of-table b))))

  good-offsets : BadOffsets m.offsets → ⊥
  good-offsets b = omega (arith, h 10 0 (of-offsets refl refl b))

  there : Missing a.table m.names → ⊥
  there b = omega (arith, h 8 0 (of-name refl refl b))

-- ---- what is said

module _ {E : Type 0} (row : E → List ℕ) where
  rows_fit : (es : List E) → AllFit32 row es → AllFit32 (λ r. r) (map row es)
  unfolding AllFit32
  rows_fit [] w = tt
  rows_fit (e ∷ es) w = (w.0, rows_fit es w.1)

  list-fits : (es : List E) → AllFit32 row es → length es < word_limit → SaidFits (list row es)
  unfolding SaidFits
  list-fits es w h = (rows_fit es w, omega (arith, length-map es row))

number_fits : (n : ℕ) → n < word_limit → SaidFits (number n)
unfolding SaidFits
number_fits n h = h

record-fits : (x : Option ℕ) → ((i : ℕ) → x ≡ Some i → i < most_records) → record_number x < word_limit
record-fits None w = omega arith
record-fits (Some i) w = omega (arith, w i refl)

-- the lists of a record of an admitted table
module _ (src t : List ℕ) (n i : ℕ) (b : OfBytes t) (v : Ok tt ≡ verdict t n 0) (h : i < count t) where
  names-said : SaidFits (list binding_row (with_names src t i))
  names-said = list-fits binding_row (with_names src t i) (with-names-fit src t n 0 i v h b) (omega (arith, with-names-few src t n 0 i v h))

  aliases-said : SaidFits (list binding_row (table_aliases src t i))
  aliases-said = list-fits binding_row (table_aliases src t i) (table-aliases-fit src t n 0 i v h b) (omega (arith, table-aliases-few src t n 0 i v h))

  columns-said : SaidFits (list binding_row (column_aliases src t i))
  columns-said = list-fits binding_row (column_aliases src t i) (column-aliases-fit src t n 0 i v h b) (omega (arith, column-aliases-few src t n 0 i v h))

  references-said : SaidFits (list reference_row (table_refs src t i))
  references-said = list-fits reference_row (table_refs src t i) (references-fit src t n 0 i v h) (omega (arith, references-few src t n 0 i v h))

  above-said : SaidFits (list above_row (above t i))
  above-said = list-fits above_row (above t i) (above-fits t n 0 i v h) (omega (arith, above-few t n 0 i v h))

-- those of a table
module _ (src t : List ℕ) (n : ℕ) (v : Ok tt ≡ verdict t n 0) where
  classes-said : SaidFits (list class_row (classes_of src t))
  classes-said = list-fits class_row (classes_of src t) (classes-fit src t n 0 v) (omega (arith, classes-few src t n 0 v, (admitted-tidy t n 0 (sym v)).few))

  openers-said : SaidFits (list opener_row (openers_left t))
  openers-said = list-fits opener_row (openers_left t) (openers-fit t n 0 v) (omega (arith, openers-few t n 0 v, (admitted-tidy t n 0 (sym v)).few))

  context-said : (o : ℕ) → SaidFits (list context_row (context_at src t o ∷ []))
  context-said o = list-fits context_row (context_at src t o ∷ []) (unfold AllFit32 in (context-fits src t n 0 o v, tt)) (omega arith)

  contexts-said : (os : List ℕ) → (BadOffsets (length os) → ⊥) → SaidFits (list context_row (contexts_at src t os))
  contexts-said os g =
      list-fits context_row (contexts_at src t os) (contexts-fit src t n 0 v os)
      (⊎_elim (λ (h : most_offsets < length os / offset_bytes). absurd (g (inl h))) (λ h. omega (arith, contexts-few src t os)) (lt-or-le most_offsets (length os / offset_bytes)))

  root_in : (o : ℕ) → (root_at t o < count t) × (count t ≤ most_records)
  root_in o = root-within t n o v refl refl

-- a root that is a node of the table, and a record that is in it, are records of it
module _ (t : List ℕ) (i : ℕ) where
  node_in : (Missing t (a-root i) → ⊥) → i < count t
  unfolding Missing
  node_in f = ⊎_elim (λ h. h) (λ (h : count t ≤ i). absurd (f (λ g k. omega arith))) (lt-or-le i (count t))

  record-in : (Missing t (a-record i) → ⊥) → i < count t
  unfolding Missing
  record-in f = ⊎_elim (λ h. h) (λ (h : count t ≤ i). absurd (f h)) (lt-or-le i (count t))

-- ---- of every question

pub said_fits : (q : Question) (a : Asked) → OfBytes a.table → Admits a (matter q a) → SaidFits (matter q a).said
unfolding matter
said_fits Check a b h = number_fits 0 (omega arith)
said_fits TokenClasses a b h = classes-said a.source a.table _ (admitted a _ h)
said_fits OpenersLeft a b h = openers-said a.source a.table _ (admitted a _ h)
said_fits BracketHint a b h =
    number_fits _ (record-fits (hint_of a.message (stack_left a.table)) (λ i e. hint-within a.table (length a.source) (length a.message) (admitted a _ h) a.message e))
said_fits WithNames a b h = names-said a.source a.table _ a.root b (admitted a _ h) (node_in a.table a.root (there a _ h))
said_fits TableAliases a b h = aliases-said a.source a.table _ a.root b (admitted a _ h) (node_in a.table a.root (there a _ h))
said_fits ColumnAliases a b h = columns-said a.source a.table _ a.root b (admitted a _ h) (node_in a.table a.root (there a _ h))
said_fits TableRefs a b h = references-said a.source a.table _ a.root b (admitted a _ h) (node_in a.table a.root (there a _ h))
said_fits CursorContext a b h = context-said a.source a.table _ (admitted a _ h) a.offset
said_fits EnclosingStatement a b h =
    number_fits _ (record-fits (enclosing_at a.table a.offset) (λ i e. statement-within a.table (length a.source) 0 a.offset (admitted a _ h) e))
said_fits CursorRoot a b h = number_fits _ (omega (arith, root_in a.source a.table _ (admitted a _ h) a.offset))
said_fits WithNamesAt a b h =
    let v = admitted a _ h in
    let w = (root_in a.source a.table _ v a.offset).0 in
    list-fits binding_row (with_names_at a.source a.table a.offset) (offered-fit a.source a.table _ 0 v _ w b) (omega (arith, offered-few a.source a.table _ 0 v _ w))
said_fits TableAliasesAt a b h = let v = admitted a _ h in aliases-said a.source a.table _ _ b v (root_in a.source a.table _ v a.offset).0
said_fits ColumnAliasesAt a b h = let v = admitted a _ h in columns-said a.source a.table _ _ b v (root_in a.source a.table _ v a.offset).0
said_fits TableRefsAt a b h = let v = admitted a _ h in references-said a.source a.table _ _ b v (root_in a.source a.table _ v a.offset).0
said_fits RecordsAbove a b h = above-said a.source a.table _ a.root b (admitted a _ h) (record-in a.table a.root (there a _ h))
said_fits CursorContexts a b h = contexts-said a.source a.table _ (admitted a _ h) a.offsets (good-offsets a _ h)

-- the contract of `ask`, where each number of the table is known to be a byte, and the reply to be one of 64 bits
pub kept : (q : Question) (a : Asked) {r : ℕ} {o : List ℕ} → ((i : ℕ) → Fits w8 (get_or a.table i 0)) → r < half * half → Told a (matter q a) r o
    → Demand1 q a r o × (Demand2 q a r o × Numbers q a r)
kept q a b w told = let d = demanded q a told in (d.0, (d.1, record { fits = said_fits q a (λ i. (b i).fits); whole = w }))

-- of everything at a cursor
pub entry-fits : (src t : List ℕ) (o : ℕ) → EntryFits src t o
entry-fits src t o h = everything-fits src t (length src) o (sym ((admitted-exactly t (length src) 0).1 h))
