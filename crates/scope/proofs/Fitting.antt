-- On an admitted table every number of an entry of the classes, and of the four lists of a root, fits 32 bits, and so does how many entries each has.
--     classes-fit, references-fit, with-names-fit, table-aliases-fit, column-aliases-fit     the numbers
--     classes-few, references-few, with-names-few, table-aliases-few, column-aliases-few     how many entries
-- Assumes nothing.
use Prim.Native.Nat.{ℕ, ◌*◌, ◌≤◌, ◌<◌}
use mathlib.Core.Path.{◌≡◌, sym}
use mathlib.Core.Bool.{Bool, true, false, cond, ◌||◌}
use mathlib.Core.List.{List, []}
use native.Mathlib.Omega.{arith}
use lib.Dec.{eqb}
use lib.ListN.{length, length-append}
use Rattle.std.specs.Prelude.{Ok, None, Option, Some}
use Rattle.lent.specs.Numbers.{OfBytes}
use Rattle.lent.specs.Fit32.{Fit32, AllFit32}
use Rattle.lent.proofs.Fit32.{fit-lists, fit-chosen}
use Rattle.records.specs.Kinds.{with_clause, select_clause, from_clause, join_clause, column_list, expression_list, with_expression_item, column_alias}
use Rattle.records.specs.Table.{count, kind_at, records, part}
use Rattle.conditions.specs.Conditions.{most_records}
use Rattle.table.specs.Rules.{verdict}
use Rattle.forest.specs.Forest.{Forest, nil, token, node, kids, stretch_end}
use Rattle.forest.specs.Limits.{Limited, size}
use Rattle.forest.proofs.Limits.{Fitting, fitting-inherited, limited-inherited, admitted-limited, inside-size, stretch-limited, stretch-fits, stretch-size}
use Rattle.forest.proofs.Sense.{admitted-tidy}
use Rattle.classes.specs.declared.token_class.TokenClass.{TokenClass}
use Rattle.classes.specs.declared.token_class.TokenClass.TheVariants.{Keyword, Function, StringLiteral, Number, Comment, Operator, Variable, TypeName, Parameter, Property}
use Rattle.classes.specs.TokenClass.{class_of, number_of}
use Rattle.names.specs.Names.{with_item, alias_in}
use Rattle.names.specs.Bindings.{with_items, select_aliases, binding_row}
use Rattle.names.proofs.Fitting.{items-fit, selected-fit, bound-few}
use Rattle.references.specs.References.{reference_row}
use Rattle.tables.specs.Tables.{references, aliases, table_reading}
use Rattle.tables.proofs.Fitting.{read_fits, aliases-fit, read-few}
use Rattle.collection.specs.Collection.{own_with, own_columns, own_tables}
use Rattle.collection.proofs.Fitting.{collection-fits, collection-few}
use Rattle.class_list.specs.Classes.{entry_of, class_row, classes, classes_of}
use Rattle.lists.specs.Scope.{with_names, table_aliases, column_aliases, table_refs}

-- ---- the classes

class-fits : (c : TokenClass) → number_of c < 4294967296
class-fits c = omega (arith, ten c)
  where
    ten : (c : TokenClass) → number_of c < 10
    ten Keyword = omega arith
    ten Function = omega arith
    ten StringLiteral = omega arith
    ten Number = omega arith
    ten Comment = omega arith
    ten Operator = omega arith
    ten Variable = omega arith
    ten TypeName = omega arith
    ten Parameter = omega arith
    ten Property = omega arith

entry-fits : (c : Option TokenClass) (s e : ℕ) → s < 4294967296 → e < 4294967296 → AllFit32 class_row (entry_of c s e)
unfolding entry_of AllFit32 Fit32
entry-fits None s e h g = tt
entry-fits (Some c) s e h g = ((h, (g, (class-fits c, tt))), tt)

below-fit : (src : List ℕ) (p : ℕ) (f : Forest) → Limited f → AllFit32 class_row (classes src p f)
unfolding classes Limited
below-fit src p nil w = unfold AllFit32 in tt
below-fit src p (token r rest) w =
    fit-lists class_row (entry_of (class_of src p r.kind r.start r.end) r.start r.end) (classes src p rest)
    (entry-fits (class_of src p r.kind r.start r.end) r.start r.end (omega (arith, w.0.1)) (omega (arith, w.0.1))) (below-fit src p rest w.1)
below-fit src p (node r below rest) w = fit-lists class_row (classes src r.kind below) (classes src p rest) (below-fit src r.kind below w.1) (below-fit src p rest w.2)

pub classes-fit : (src t : List ℕ) (n m : ℕ) → Ok tt ≡ verdict t n m → AllFit32 class_row (classes_of src t)
classes-fit src t n m a = below-fit src (kind_at t 0) (kids (records 0 t)) (admitted-limited t n m a 0)

-- how many: no more than records

entry-one : (c : Option TokenClass) (s e : ℕ) → length (entry_of c s e) ≤ 1
unfolding entry_of
entry-one None s e = omega arith
entry-one (Some c) s e = omega arith

below-few : (src : List ℕ) (p : ℕ) (f : Forest) → length (classes src p f) ≤ size f
unfolding classes size
below-few src p nil = omega arith
below-few src p (token r rest) =
    omega (arith, length-append (entry_of (class_of src p r.kind r.start r.end) r.start r.end) (classes src p rest), entry-one (class_of src p r.kind r.start r.end) r.start r.end, below-few src p rest)
below-few src p (node r below rest) = omega (arith, length-append (classes src r.kind below) (classes src p rest), below-few src r.kind below, below-few src p rest)

pub classes-few : (src t : List ℕ) (n m : ℕ) → Ok tt ≡ verdict t n m → length (classes_of src t) ≤ count t
classes-few src t n m a = omega (arith, below-few src (kind_at t 0) (kids (records 0 t)), inside-size t 0 (admitted-tidy t n m (sym a)).some)

-- ---- a node's own part of each list

module _ (src : List ℕ) (k : ℕ) (f : Forest) where
  own-references-fit : Limited f → AllFit32 reference_row (own_tables references src k f)
  unfolding own_tables
  own-references-fit w = fit-chosen reference_row (eqb k from_clause || eqb k join_clause) (table_reading references src None f) [] (read_fits src f w) (unfold AllFit32 in tt)

  own-aliases-fit : Fitting f → AllFit32 binding_row (own_tables aliases src k f)
  unfolding own_tables
  own-aliases-fit w = fit-chosen binding_row (eqb k from_clause || eqb k join_clause) (table_reading aliases src None f) [] (aliases-fit src f w) (unfold AllFit32 in tt)

  own-with-fits : Fitting f → AllFit32 binding_row (own_with src k f)
  unfolding own_with
  own-with-fits w = fit-chosen binding_row (eqb k with_clause) (with_items src f) [] (items-fit src f w) (unfold AllFit32 in tt)

  own-columns-fit : Fitting f → AllFit32 binding_row (own_columns src k f)
  unfolding own_columns
  own-columns-fit w = fit-chosen binding_row (eqb k select_clause) (select_aliases src f) [] (selected-fit src f w) (unfold AllFit32 in tt)

  few-or-none : {E : Type 0} (b : Bool) (es : List E) → length es ≤ size f → length (cond b es []) ≤ size f
  few-or-none true es h = h
  few-or-none false es h = omega arith

  own-references-few : length (own_tables references src k f) ≤ size f
  unfolding own_tables
  own-references-few = few-or-none (eqb k from_clause || eqb k join_clause) _ (read-few references src (λ t. omega arith) (λ b. omega arith) f)

  own-aliases-few : length (own_tables aliases src k f) ≤ size f
  unfolding own_tables
  own-aliases-few = few-or-none (eqb k from_clause || eqb k join_clause) _ (read-few aliases src (λ t. omega arith) (λ b. omega arith) f)

  own-with-few : length (own_with src k f) ≤ size f
  unfolding own_with
  own-with-few = few-or-none (eqb k with_clause) _ (bound-few with_expression_item (λ j. eqb j column_list) (with_item src) f)

  own-columns-few : length (own_columns src k f) ≤ size f
  unfolding own_columns
  own-columns-few = few-or-none (eqb k select_clause) _ (bound-few column_alias (λ j. eqb j column_list || eqb j expression_list) (alias_in src) f)

-- ---- the lists of a root

module _ (src t : List ℕ) (n m i : ℕ) (a : Ok tt ≡ verdict t n m) (h : i < count t) where
  pub references-fit : AllFit32 reference_row (table_refs src t i)
  references-fit = collection-fits reference_row (own_tables references src) limited-inherited (own-references-fit src) _ _ (stretch-limited (admitted-tidy t n m (sym a)) i h)

  -- a list of bindings, whose definitions are spans of nodes
  module _ (b : OfBytes t) where
    fitting : Fitting (kids (records i (part t i (stretch_end t i))))
    fitting = stretch-fits (admitted-tidy t n m (sym a)) b i h

    pub with-names-fit : AllFit32 binding_row (with_names src t i)
    with-names-fit = collection-fits binding_row (own_with src) fitting-inherited (own-with-fits src) _ _ fitting

    pub table-aliases-fit : AllFit32 binding_row (table_aliases src t i)
    table-aliases-fit = collection-fits binding_row (own_tables aliases src) fitting-inherited (own-aliases-fit src) _ _ fitting

    pub column-aliases-fit : AllFit32 binding_row (column_aliases src t i)
    column-aliases-fit = collection-fits binding_row (own_columns src) fitting-inherited (own-columns-fit src) _ _ fitting

  -- how many: 4,096 for each of 4,096 records
  abbrev most : ℕ
  most = most_records * most_records

  short : size (kids (records i (part t i (stretch_end t i)))) < most_records
  short = omega (arith, stretch-size t i h, (admitted-tidy t n m (sym a)).few)

  pub references-few : length (table_refs src t i) ≤ most
  references-few = collection-few (own_tables references src) (own-references-few src) _ _ short

  pub with-names-few : length (with_names src t i) ≤ most
  with-names-few = collection-few (own_with src) (own-with-few src) _ _ short

  pub table-aliases-few : length (table_aliases src t i) ≤ most
  table-aliases-few = collection-few (own_tables aliases src) (own-aliases-few src) _ _ short

  pub column-aliases-few : length (column_aliases src t i) ≤ most
  column-aliases-few = collection-few (own_columns src) (own-columns-few src) _ _ short
