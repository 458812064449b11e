-- What a turn of the table reading writes, by the kind of the record that it stands at.
-- Assumes nothing.
use Prim.Native.Nat.{ℕ, ◌+◌, ◌<◌}
use mathlib.Core.Path.{◌≡◌, refl, sym, ◌∙◌}
use mathlib.Core.Bool.{Bool, true, false}
use mathlib.Core.List.{List, [], ◌∷◌, ◌++◌, map, append_assoc}
use native.Mathlib.Omega.{arith}
use lib.Dec.{eqb}
use Rattle.names.specs.declared.names.NameBinding.{NameBinding}
use Rattle.std.specs.Prelude.{Option, Some, None}
use Rattle.records.specs.declared.record.Rec.{Rec}
use Rattle.records.specs.Kinds.{join_clause, table_identifier, table_expression, table_alias}
use Rattle.records.specs.Table.{count, kind_at, record_at, records, part}
use Rattle.forest.specs.Forest.{Forest, nil, token, node, kids, stretch_end}
use Rattle.lent.proofs.Writes.{written_none}
use Rattle.forest.proofs.Laws.{head-part}
use Rattle.forest.proofs.Writing.{writing, writing-turn}
use Rattle.references.specs.declared.pending.TableRef.{TableRef}
use Rattle.tables.specs.declared.tables.Reads.{Reads}
use Rattle.tables.specs.declared.tables.Reads.TheVariants.{Aliases, References}
use Rattle.names.specs.Names.{is_part, direct, alias_in}
use Rattle.names.specs.Bindings.{entry, binding_row}
use Rattle.references.specs.References.{fresh, reference_row}
use Rattle.tables.specs.Tables.{aliased, Listing, hand_on, list_alias, table_reading}
use Rattle.tables.specs.inner.Rows.{rows_of}
use Rattle.references.specs.inner.Pending.{pends}
use Rattle.records.proofs.Fields.{kind-yes, kind-no, index_of}

-- ---- the table reading: what is written of the pending reference and of an alias

pub hand-none : (p : Option TableRef) → hand_on (rows_of Aliases) p ≡ []
unfolding hand_on rows_of
hand-none None = refl
hand-none (Some t) = refl

pub hand-held : (t : TableRef) → hand_on (rows_of References) (Some t) ≡ map reference_row (t ∷ [])
unfolding hand_on rows_of
hand-held t = refl

pub hand-nothing : (reads : Reads) → hand_on (rows_of reads) None ≡ []
unfolding hand_on
hand-nothing reads = refl

pub alias-none : (p : Option TableRef) (b : Option NameBinding) → list_alias (rows_of References) p b ≡ []
unfolding list_alias rows_of
alias-none None b = refl
alias-none (Some t) None = refl
alias-none (Some t) (Some b) = refl

pub alias-idle : (reads : Reads) (p : Option TableRef) (b : Option NameBinding) {x : Bool} → x ≡ pends p → x ≡ false → list_alias (rows_of reads) p b ≡ []
unfolding list_alias
alias-idle reads None b e y = refl
alias-idle reads (Some t) b e y = absurd (let z : ◌≡◌ {A = ℕ} 0 1 = cc in omega arith)

pub alias-held : (p : Option TableRef) (b : Option NameBinding) {x : Bool} → x ≡ pends p → x ≡ true → list_alias (rows_of Aliases) p b ≡ map binding_row (entry b)
unfolding list_alias rows_of entry
alias-held None b e y = absurd (let z : ◌≡◌ {A = ℕ} 0 1 = cc in omega arith)
alias-held (Some t) None e y = refl
alias-held (Some t) (Some b) e y = refl

-- ---- the table reading: what it has yet to read with p pending, at a record of each kind

module _ {E : Type 0} (L : Listing E) (src : List ℕ) (p : Option TableRef) (r : Rec) (below f : Forest) where
  at_name : eqb r.kind table_identifier ≡ true → table_reading L src p (node r below f) ≡ hand_on L p ++ table_reading L src (fresh src r.index (direct is_part below)) f
  unfolding table_reading
  at_name e = rw e

  module _ (a : eqb r.kind table_identifier ≡ false) where
    at-alias : eqb r.kind table_alias ≡ true
        → table_reading L src p (node r below f) ≡ list_alias L p (alias_in src r below) ++ table_reading L src (aliased p (alias_in src r below)) f
    unfolding table_reading
    at-alias e = rw (a, e)

    module _ (b : eqb r.kind table_alias ≡ false) where
      at_table : eqb r.kind table_expression ≡ true → table_reading L src p (node r below f) ≡ table_reading L src None below ++ table_reading L src p f
      unfolding table_reading
      at_table e = rw (a, b, e)

      module _ (c : eqb r.kind table_expression ≡ false) where
        at_join : eqb r.kind join_clause ≡ true → table_reading L src p (node r below f) ≡ hand_on L p ++ (table_reading L src None below ++ table_reading L src None f)
        unfolding table_reading
        at_join e = rw (a, b, c, e)

        at_other : eqb r.kind join_clause ≡ false → table_reading L src p (node r below f) ≡ table_reading L src p f
        unfolding table_reading
        at_other e = rw (a, b, c, e)

module _ {E : Type 0} (L : Listing E) (src : List ℕ) (p : Option TableRef) (s : List ℕ) (base i : ℕ) (f : Forest) where
  pub read_name : {q : Option TableRef} (below : Forest) → kind_at s i ≡ table_identifier → q ≡ fresh src (base + i) (direct is_part below)
      → table_reading L src p (node (record_at s base i) below f) ≡ hand_on L p ++ table_reading L src q f
  read_name below e q = at_name L src p _ below f (kind-yes s base i e) ∙ rw (index_of s base i, q)

  pub read-alias : {q : Option TableRef} {b : Option NameBinding} {t : List ℕ} → i < count s → t ≡ part s i (stretch_end s i) → kind_at s i ≡ table_alias
      → b ≡ alias_in src (record_at t (base + i) 0) (kids (records (base + i) t)) → q ≡ aliased p b
      → table_reading L src p (node (record_at s base i) (kids (records (base + i) t)) f) ≡ list_alias L p b ++ table_reading L src q f
  read-alias h t e b q =
      at-alias L src p _ _ f (kind-no s base i table_identifier (λ x. omega arith)) (kind-yes s base i e)
      ∙ rw (q, b, head-part s base i h t)

  module _ (below : Forest) where
    pub read_table : kind_at s i ≡ table_expression → table_reading L src p (node (record_at s base i) below f) ≡ table_reading L src None below ++ table_reading L src p f
    read_table e = at_table L src p _ below f (kind-no s base i table_identifier (λ x. omega arith)) (kind-no s base i table_alias (λ x. omega arith)) (kind-yes s base i e)

    pub read_join : kind_at s i ≡ join_clause
        → table_reading L src p (node (record_at s base i) below f) ≡ (hand_on L p ++ table_reading L src None below) ++ table_reading L src None f
    read_join e =
        at_join L src p _ below f (kind-no s base i table_identifier (λ x. omega arith)) (kind-no s base i table_alias (λ x. omega arith)) (kind-no s base i table_expression (λ x. omega arith)) (kind-yes s base i e)
        ∙ sym (append_assoc (hand_on L p) (table_reading L src None below) (table_reading L src None f))

    pub read-other : (kind_at s i ≡ table_identifier → ⊥) → (kind_at s i ≡ table_alias → ⊥) → (kind_at s i ≡ table_expression → ⊥) → (kind_at s i ≡ join_clause → ⊥)
        → table_reading L src p (node (record_at s base i) below f) ≡ table_reading L src p f
    read-other a b c d =
        at_other L src p _ below f (kind-no s base i table_identifier a) (kind-no s base i table_alias b) (kind-no s base i table_expression c) (kind-no s base i join_clause d)

pub read-end : {E : Type 0} (L : Listing E) (src : List ℕ) (p : Option TableRef) → table_reading L src p nil ≡ hand_on L p
unfolding table_reading
read-end L src p = refl

-- a token adds nothing to what is written
pub reading-passes : {E : Type 0} (row : E → List ℕ) (L : Listing E) (src : List ℕ) (p : Option TableRef) (out : List ℕ) (at : ℕ) (r : Rec) (f : Forest)
    → writing row (table_reading L src p) out at (token r f) ≡ writing row (table_reading L src p) out at f
unfolding table_reading
reading-passes row L src p out at r f = writing-turn row (table_reading L src p) (table_reading L src p) (token r f) f refl (written_none row out at)
