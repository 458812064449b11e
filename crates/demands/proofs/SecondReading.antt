-- Over valid UTF-8, with tokens cut between characters, each answer equals the Rust's too: the Rust's four files (crate rust) over the contract of `ask`.
-- Assumes nothing.
use Prim.Native.Nat.{ℕ, ◌<◌}
use mathlib.Core.Path.{◌≡◌, refl, sym, ap, ◌∙◌}
use mathlib.Core.List.{List, [], ◌∷◌, ◌++◌, map}
use mathlib.Core.Logic.{⊎_elim}
use native.Mathlib.Omega.{arith}
use lib.ListN.{length}
use Rattle.std.specs.Prelude.{Ok, Option}
use Rattle.records.specs.Table.{count}
use Rattle.table.specs.Rules.{verdict}
use Rattle.table.proofs.Exactly.{admitted-exactly}
use Rattle.lent.proofs.Cases.{lt-or-le}
use Rattle.names.specs.declared.names.NameBinding.{NameBinding}
use Rattle.names.specs.Bindings.{binding_row}
use Rattle.brackets.specs.Brackets.{opener_row}
use Rattle.lists.specs.Scope.{table_refs}
use Rattle.cursor.specs.CursorContext.{context_at}
use Rattle.cursors.specs.Cursors.{offsets_of}
use Rattle.cursor_root.specs.Root.{root_at}
use Rattle.cursor_root.proofs.RootLaws.{root-node}
use Rattle.replies.specs.Reply.{record_number}
use Rattle.rust.specs.Rust.{Call, stops, gives, Askable}
use Rattle.rust.specs.ScopeRs.{QueryScope, scope_at, FourLists}
use Rattle.rust.proofs.BracketMatchingRs.{bracket-matching-rs}
use Rattle.rust.proofs.SemanticTokensRs.{semantic-tokens-rs}
use Rattle.rust.proofs.ScopeRs.{scope-rs}
use Rattle.rust.proofs.CursorContextRs.{cursor-context-rs}
use Rattle.demands.specs.declared.Question.{Question}
use Rattle.demands.specs.declared.Question.TheVariants.{Check, TokenClasses, OpenersLeft, BracketHint, WithNames, TableAliases, ColumnAliases, TableRefs, CursorContext, EnclosingStatement, CursorRoot, WithNamesAt, TableAliasesAt, ColumnAliasesAt, TableRefsAt, RecordsAbove, CursorContexts}
use Rattle.demands.specs.Questions.{Asked, Matter, number, rows, list, matter}
use Rattle.demands.specs.Demand1.{NoNode, Missing, Holds, of-table, of-name}
use Rattle.demands.specs.SecondReading.{Scoped, lists, lone-mark, GaveEach, Agrees, SecondReadings}
use Rattle.demands.proofs.Stages.{a-node}
use Rattle.demands.proofs.Spring.{spring}

module _ (a : Asked) (ask : Askable a.source a.table) where
  abbrev source : List ℕ
  source = a.source

  abbrev t : List ℕ
  t = a.table

  module _ (ok : verdict t (length source) 0 ≡ Ok tt) where
    -- the scope of a record
    module _ (i : ℕ) (h : i < count t) {P : QueryScope → Type 0} where
      scoped : ((q : QueryScope) → FourLists source t i q → P q) → Scoped a i P
      scoped f = go (scope_at source t i) refl
        where
          go : (run : Call QueryScope) → scope_at source t i ≡ run → Scoped a i P
          go stops e = lone-mark (((scope-rs source t ok ask).stops-exactly i h).0 e) e
          go (gives q) e = lists (record { it = q; gave = e; so = f q ((scope-rs source t ok ask).four-lists i h q e) })

    -- the contexts at offsets
    contexts-each : (os : List ℕ) → GaveEach a os (map (context_at source t) os)
    unfolding GaveEach
    contexts-each [] = tt
    contexts-each (o ∷ os) = ((cursor-context-rs source t o ok ask).context, contexts-each os)

    root_in : root_at t a.offset < count t
    root_in = ⊎_elim (λ h. h) (λ h. absurd (a-node t (root_at t a.offset) (root-node t (length source) ok a.offset) (λ g k. omega arith))) (lt-or-le (root_at t a.offset) (count t))

    -- a root that is named is in the table
    named : (i : ℕ) → (NoNode t i → ⊥) → i < count t
    named i w = ⊎_elim (λ h. h) (λ h. absurd (w (λ g k. omega arith))) (lt-or-le i (count t))

-- where no condition holds, the table is admitted
admits : (a : Asked) (m : Matter) → m.message ≡ 0 → ((k d : ℕ) → Holds a m k d → ⊥) → verdict a.table (length a.source) 0 ≡ Ok tt
admits a m e f = (admitted-exactly a.table (length a.source) 0).1 (λ k d b. f k d (of-table (rw e b)))

agrees : (q : Question) (a : Asked) → Askable a.source a.table → ((k d : ℕ) → Holds a (matter q a) k d → ⊥) → Agrees q a (matter q a).said
unfolding Agrees matter Missing
agrees Check a ask f = tt
agrees TokenClasses a ask f = record { it = _; gave = (semantic-tokens-rs a.source a.table (admits a _ refl f) ask).sorted; so = refl }
agrees OpenersLeft a ask f = ap (list opener_row) (sym (bracket-matching-rs a.table).openers-left)
agrees BracketHint a ask f = ap (λ (h : Option ℕ). number (record_number h)) (sym ((bracket-matching-rs a.table).bracket-hint a.message))
agrees WithNames a ask f = scoped a ask (admits a _ refl f) a.root (named a ask (admits a _ refl f) a.root (λ w. f 8 0 (of-name refl refl w))) (λ q l. ap (list binding_row) (sym l.with-names))
agrees TableAliases a ask f = scoped a ask (admits a _ refl f) a.root (named a ask (admits a _ refl f) a.root (λ w. f 8 0 (of-name refl refl w))) (λ q l. ap (list binding_row) (sym l.table-aliases))
agrees ColumnAliases a ask f = scoped a ask (admits a _ refl f) a.root (named a ask (admits a _ refl f) a.root (λ w. f 8 0 (of-name refl refl w))) (λ q l. ap (list binding_row) (sym l.column-aliases))
agrees TableRefs a ask f = scoped a ask (admits a _ refl f) a.root (named a ask (admits a _ refl f) a.root (λ w. f 8 0 (of-name refl refl w))) (λ q l. record { references = table_refs a.source a.table a.root; compared-are = sym l.table-refs; rows_are = refl })
agrees CursorContext a ask f = record { contexts = _; given = contexts-each a ask (admits a _ refl f) (a.offset ∷ []); rows_are = refl }
agrees EnclosingStatement a ask f = ap (λ (e : Option ℕ). number (record_number e)) (sym ((scope-rs a.source a.table (admits a _ refl f) ask).enclosing-statement a.offset))
agrees CursorRoot a ask f = tt
agrees WithNamesAt a ask f =
    let s = spring a (admits a _ refl f) in
    scoped a ask (admits a _ refl f) (root_at a.table a.offset) (root_in a ask (admits a _ refl f))
    (λ q l. record { more = s.more; rows_are = s.own_first ∙ ap (λ (bs : List NameBinding). rows (map binding_row bs ++ s.more)) (sym l.with-names) })
agrees TableAliasesAt a ask f = scoped a ask (admits a _ refl f) (root_at a.table a.offset) (root_in a ask (admits a _ refl f)) (λ q l. ap (list binding_row) (sym l.table-aliases))
agrees ColumnAliasesAt a ask f = scoped a ask (admits a _ refl f) (root_at a.table a.offset) (root_in a ask (admits a _ refl f)) (λ q l. ap (list binding_row) (sym l.column-aliases))
agrees TableRefsAt a ask f = scoped a ask (admits a _ refl f) (root_at a.table a.offset) (root_in a ask (admits a _ refl f)) (λ q l. record { references = table_refs a.source a.table (root_at a.table a.offset); compared-are = sym l.table-refs; rows_are = refl })
agrees RecordsAbove a ask f = tt
agrees CursorContexts a ask f =
    record {
      contexts = _;
      given = contexts-each a ask ((admitted-exactly a.table (length a.source) 0).1 (λ k d b. f k d (of-table b))) (offsets_of a.offsets);
      rows_are = refl;
    }

pub second-reading : SecondReadings
second-reading q a ask f reply out m =
    record { said = (matter q a).said; agrees = agrees q a ask f; answer = m.1.answer f; entries = m.1.entries f }
