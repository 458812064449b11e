-- From the rows that the walks write to the four lists of typed entries.
-- Assumes nothing.
use Prim.Native.Nat.{ℕ, ◌*◌, ◌≤◌, ◌<◌}
use mathlib.Core.Path.{◌≡◌, refl, sym, ◌∙◌}
use mathlib.Core.Bool.{Bool, true, false, cond, ◌||◌}
use mathlib.Core.List.{List, [], ◌++◌, map, map-append}
use native.Mathlib.Omega.{arith}
use lib.Dec.{eqb}
use lib.ListN.{length, length-map}
use Rattle.references.specs.declared.pending.TableRef.{TableRef}
use Rattle.names.specs.declared.names.NameBinding.{NameBinding}
use Rattle.std.specs.Prelude.{Ok, Err, Result, Option, Some, None}
use Rattle.lent.specs.declared.refusal.Refusal.{Refusal}
use Rattle.records.specs.Kinds.{with_clause, from_clause, join_clause, subquery_expression, table_identifier, table_expression, table_alias}
use Rattle.records.specs.Table.{count, record_at, records, part}
use Rattle.forest.specs.Forest.{Forest, nil, token, node, kids, stretch_end}
use Rattle.conditions.specs.Conditions.{most_records}
use Rattle.table.specs.Rules.{root_rules, root_verdict}
use Rattle.lent.specs.Verdicts.{Rule, first, Verdict}
use Rattle.lent.specs.Numbers.{number_bytes}
use Rattle.lent.specs.Lists.{list_bytes, listed, lent}
use Rattle.table.proofs.Checks.{root-known}
use Rattle.lent.proofs.Writes.{length-wide, bytes-map, listed-map, lent_map}
use Rattle.clauses.specs.declared.clauses.ScopeList.{ScopeList}
use Rattle.clauses.specs.declared.clauses.ScopeList.TheVariants.{WithNames, TableAliases, ColumnAliases, TableRefs}
use Rattle.names.specs.Names.{is_part, direct, alias_in}
use Rattle.collection.specs.Collection.{node_gives, collected, collection, own_with, own_columns, own_tables, collection_of}
use Rattle.references.specs.References.{fresh, reference_row}
use Rattle.tables.specs.Tables.{aliased, Listing, hand_on, list_alias, table_reading, references, aliases}
use Rattle.names.specs.Bindings.{binding_row}
use Rattle.lists.specs.Scope.{with_names, table_aliases, column_aliases, table_refs}
use Rattle.tables.specs.inner.Rows.{as_row, rows_of}
use Rattle.collection.specs.inner.Rows.{own_rows}
use Rattle.lists.specs.inner.Rows.{rows_at, width}

-- ---- entry by entry: a collection of mapped entries is the mapped collection, and so is a table reading

module _ {E F : Type 0} (row : E → F) (own : ℕ → Forest → List E) (own' : ℕ → Forest → List F) (e : (k : ℕ) (f : Forest) → own' k f ≡ map row (own k f)) where
  entered-map : (k : ℕ) (below : Forest) (xs : List E) → node_gives own' k below (map row xs) ≡ map row (node_gives own k below xs)
  unfolding node_gives
  entered-map k below xs = rw e (go (eqb k with_clause))
    where
      go : (b : Bool) → map row (own k below) ++ cond b [] (map row xs) ≡ map row (own k below ++ cond b [] xs)
      go true = sym (map-append row (own k below) [])
      go false = sym (map-append row (own k below) xs)

  collected-map : (f : Forest) → collected own' f ≡ map row (collected own f)
  unfolding collected
  collected-map nil = refl
  collected-map (token r rest) = collected-map rest
  collected-map (node r below rest) =
      rw (collected-map below, collected-map rest, entered-map r.kind below (collected own below))
      (go (eqb r.kind subquery_expression) (node_gives own r.kind below (collected own below)))
    where
      go : (b : Bool) (xs : List E) → cond b [] (map row xs) ++ map row (collected own rest) ≡ map row (cond b [] xs ++ collected own rest)
      go true xs = refl
      go false xs = sym (map-append row xs (collected own rest))

  pub collection-map : (s : List ℕ) (base : ℕ) → collection_of own' base s ≡ map row (collection_of own base s)
  unfolding collection
  collection-map s base = rw (collected-map (kids (records base s))) (entered-map (record_at s base 0).kind (kids (records base s)) (collected own (kids (records base s))))

module _ {E F : Type 0} (row : E → F) (L : Listing E) where
  -- what is listed, mapped
  abbrev pub mapped : Listing F
  mapped = record { reference = λ t. map row (L.reference t); alias = λ b. map row (L.alias b) }

  hand-map : (p : Option TableRef) → hand_on mapped p ≡ map row (hand_on L p)
  unfolding hand_on
  hand-map None = refl
  hand-map (Some t) = refl

  alias-map : (p : Option TableRef) (b : Option NameBinding) → list_alias mapped p b ≡ map row (list_alias L p b)
  unfolding list_alias
  alias-map None b = refl
  alias-map (Some t) None = refl
  alias-map (Some t) (Some b) = refl

  reading-map : (src : List ℕ) (p : Option TableRef) (f : Forest) → table_reading mapped src p f ≡ map row (table_reading L src p f)
  unfolding table_reading
  reading-map src p nil = hand-map p
  reading-map src p (token r rest) = reading-map src p rest
  reading-map src p (node r below rest) = go (eqb r.kind table_identifier) (eqb r.kind table_alias) (eqb r.kind table_expression) (eqb r.kind join_clause) (reading-map src None below) (λ q. reading-map src q rest)
    where
      named : Option TableRef
      named = fresh src r.index (direct is_part below)

      bound : Option NameBinding
      bound = alias_in src r below

      go : (a b c d : Bool) → table_reading mapped src None below ≡ map row (table_reading L src None below)
          → ((q : Option TableRef) → table_reading mapped src q rest ≡ map row (table_reading L src q rest))
          → cond a (hand_on mapped p ++ table_reading mapped src named rest) (cond b (list_alias mapped p bound ++ table_reading mapped src (aliased p bound) rest) (cond c (table_reading mapped src None below ++ table_reading mapped src p rest) (cond d (hand_on mapped p ++ (table_reading mapped src None below ++ table_reading mapped src None rest)) (table_reading mapped src p rest))))
          ≡ map row (cond a (hand_on L p ++ table_reading L src named rest) (cond b (list_alias L p bound ++ table_reading L src (aliased p bound) rest) (cond c (table_reading L src None below ++ table_reading L src p rest) (cond d (hand_on L p ++ (table_reading L src None below ++ table_reading L src None rest)) (table_reading L src p rest)))))
      go true b c d i o = rw (hand-map p, o named) (sym (map-append row (hand_on L p) (table_reading L src named rest)))
      go false true c d i o = rw (alias-map p bound, o (aliased p bound)) (sym (map-append row (list_alias L p bound) (table_reading L src (aliased p bound) rest)))
      go false false true d i o = rw (i, o p) (sym (map-append row (table_reading L src None below) (table_reading L src p rest)))
      go false false false true i o =
          rw (hand-map p, i, o None, map-append row (hand_on L p) (table_reading L src None below ++ table_reading L src None rest), map-append row (table_reading L src None below) (table_reading L src None rest))
      go false false false false i o = o p

  pub tables-map : (src : List ℕ) (k : ℕ) (f : Forest) → own_tables mapped src k f ≡ map row (own_tables L src k f)
  unfolding own_tables
  tables-map src k f = rw (reading-map src None f) (go (eqb k from_clause || eqb k join_clause))
    where
      go : (b : Bool) → cond b (map row (table_reading L src None f)) [] ≡ map row (cond b (table_reading L src None f) [])
      go true = refl
      go false = refl

-- ---- the four lists as rows

module _ (src t : List ℕ) (i : ℕ) where
  pub with_rows : rows_at WithNames src t i ≡ map binding_row (with_names src t i)
  with_rows = collection-map binding_row (own_with src) (own_rows WithNames src) (λ k f. (unfold own_rows in refl)) (part t i (stretch_end t i)) i

  pub column-rows : rows_at ColumnAliases src t i ≡ map binding_row (column_aliases src t i)
  column-rows = collection-map binding_row (own_columns src) (own_rows ColumnAliases src) (λ k f. (unfold own_rows in refl)) (part t i (stretch_end t i)) i

  pub alias-rows : rows_at TableAliases src t i ≡ map binding_row (table_aliases src t i)
  alias-rows = collection-map binding_row (own_tables aliases src) (own_rows TableAliases src) (λ k f. (unfold own_rows rows_of in tables-map binding_row aliases src k f)) (part t i (stretch_end t i)) i

  pub reference-rows : rows_at TableRefs src t i ≡ map reference_row (table_refs src t i)
  reference-rows = collection-map reference_row (own_tables references src) (own_rows TableRefs src) (λ k f. (unfold own_rows rows_of in tables-map reference_row references src k f)) (part t i (stretch_end t i)) i

-- rows that are a list of entries of w bytes
wide_rows : {E : Type 0} (row : E → List ℕ) (w : ℕ) → ((e : E) → number_bytes * length (row e) ≡ w) → (es : List E) {rs : List (List ℕ)} → rs ≡ map row es
    → length (list_bytes as_row rs) ≡ length rs * w
wide_rows row w h es q = rw (q, bytes-map row es, length-map es row) (length-wide row w h es)

pub wide_at : (asked : ScopeList) (src t : List ℕ) (i : ℕ) → length (list_bytes as_row (rows_at asked src t i)) ≡ length (rows_at asked src t i) * width asked
unfolding width
wide_at WithNames src t i = wide_rows binding_row 24 (λ e. refl) (with_names src t i) (with_rows src t i)
wide_at TableAliases src t i = wide_rows binding_row 24 (λ e. refl) (table_aliases src t i) (alias-rows src t i)
wide_at ColumnAliases src t i = wide_rows binding_row 24 (λ e. refl) (column_aliases src t i) (column-rows src t i)
wide_at TableRefs src t i = wide_rows reference_row 52 (λ e. refl) (table_refs src t i) (reference-rows src t i)

pub wide-some : (asked : ScopeList) → 0 < width asked
unfolding width
wide-some WithNames = omega arith
wide-some TableAliases = omega arith
wide-some ColumnAliases = omega arith
wide-some TableRefs = omega arith

-- ---- one question for rows

module _ (t : List ℕ) (n i : ℕ) {v : Verdict} (e : v ≡ root_verdict t n i) where
  pub root-first : {r : Refusal} → v ≡ Err r → Err r ≡ first (root_rules t n i)
  unfolding root_verdict
  root-first q = sym q ∙ e

  pub root-passed : v ≡ Ok tt → Ok tt ≡ first (root_rules t n i)
  unfolding root_verdict
  root-passed q = sym q ∙ e

  pub root-some : v ≡ Ok tt → (count t ≤ most_records) × (i < count t)
  root-some q = root-known t n i (sym q ∙ e)

-- the answer in rows is the answer in entries
pub question : {E : Type 0} (row : E → List ℕ) (es : List E) {ls : List (List ℕ)} (rs : List Rule) (out : List ℕ) {r : Result ℕ Refusal} {out' : List ℕ} → ls ≡ map row es
    → (r ≡ listed rs as_row ls out) × (out' ≡ lent rs as_row ls out) → (r ≡ listed rs row es out) × (out' ≡ lent rs row es out)
question row es rs out q a = (a.0 ∙ rw q (listed-map row rs es out), a.1 ∙ rw q (lent_map row rs es out))
