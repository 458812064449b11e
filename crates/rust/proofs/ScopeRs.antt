-- The Rust's scope and document 01's say the same. The Rust makes its four lists at once, in one pass that pushes and may stop; document 01 has each by
-- itself: `Grown` says what a part of the pass adds to each, and `Came` (proofs/Calls.antt) where it stops.
-- Assumes nothing.
use Prim.Native.Nat.{ℕ, ◌+◌, ◌<◌, ◌≤◌}
use mathlib.Core.Path.{◌≡◌, refl, sym, ap, ◌∙◌}
use mathlib.Core.Bool.{Bool, true, false, cond, ◌||◌}
use mathlib.Core.List.{List, [], ◌∷◌, ◌++◌, map, map-append, append-nil, append_assoc}
use mathlib.Core.Logic.{◌↔◌, ⊎_elim}
use native.Mathlib.Omega.{arith}
use native.Mathlib.Nat.{zero-add}
use borrow.Author.Tests.{eq-eqb, ne_eqb, lt-ltb, le-ltb, le-leb, lt-leb}
use lib.Dec.{ltb, eqb}
use lib.ListN.{length}
use Rattle.references.specs.declared.pending.TableRef.{TableRef}
use Rattle.std.specs.Prelude.{Ok, Some, None, Option}
use Rattle.records.specs.declared.record.Rec.{Rec}
use Rattle.records.specs.declared.range.Range.{Range}
use Rattle.records.specs.Table.{count, depth_at, record_at, records, part, from}
use Rattle.forest.specs.Forest.{Forest, nil, token, node, level, kids, stretch_end, inside}
use Rattle.table.specs.Rules.{verdict}
use Rattle.lent.proofs.Cases.{lt-or-le}
use Rattle.forest.proofs.Laws.{from_cons, head-part, kids-part}
use Rattle.quotes.specs.declared.quotes.NameRanges.{NameRanges}
use Rattle.names.specs.declared.names.NameBinding.{NameBinding}
use Rattle.records.specs.Ranges.{span, holds}
use Rattle.names.specs.Names.{is_as, is_part, is_name, direct, first_named, last_named, with_item, alias_in, binding as bind}
use Rattle.quotes.specs.Quotes.{unquoted, name_of}
use Rattle.collection.specs.Collection.{node_gives, collected, collection, own_with, own_columns, own_tables, collection_at}
use Rattle.names.specs.Bindings.{entry, bound_in, with_items, select_aliases}
use Rattle.references.specs.References.{fresh}
use Rattle.tables.specs.Tables.{aliased, Listing, hand_on, list_alias, table_reading, references, aliases}
use Rattle.statement.specs.Statement.{itself, is_statement, or_else, first_find, enclosing_at}
use Rattle.lists.proofs.ListLaws.{mapped, collection-map, tables-map}
use Rattle.roots.specs.Reach.{one_or_two, has_one_or_two}
use Rattle.roots.proofs.Counts.{decide}
use Rattle.rust.specs.Rust.{Call, stops, gives, ◌>>=◌, push, Askable}
use Rattle.rust.specs.ScopeRs.{Binding, Reference, QueryScope, push_cte, push_table_alias, push_column_alias, push_table_ref, unquote, says_as, binding_of, extract_cte, push_if_cte, collect_ctes, Ident, extract_alias_name, parts, by_parts, extract_table_identifier, flush, name_if_pending, set_alias, push_alias, collect_table_refs, push_if_alias, collect_column_aliases, body, each_child, collect_scope, build_scope, is_statement_kind, or_return, enclosing, deeper_statement, is_quoted, first_quoted, given_in, unquoted_items, unquoted_columns, unquoted_reading, own_unquoted, unquoted_at, is_lone, any_lone, range_or, as_binding, Compared, compared, reference, found, scope_at, FourLists, ScopeRs}
use Rattle.rust.proofs.KindLists.{range-list}
use Rattle.rust.proofs.Calls.{Gives, then_is, Came, halts, goes, came, came-eq, came-so, came-then}
use Rattle.rust.proofs.Texts.{ReadAt, Reads, reads}

-- ---- names

-- the name of a Quoted, or a stop at a lone mark
unquoted-came : (src : List ℕ) (t : Rec) → ReadAt src t → Came src (t ∷ []) (unquote src (span t)) (λ n. n ≡ unquoted src t.start t.end)
unfolding any_lone
unquoted-came src t w = came-eq w.name (go (is_lone src t) refl)
  where
    go : (l : Bool) → is_lone src t ≡ l → Came src (t ∷ []) (cond l stops (gives (unquoted src t.start t.end))) (λ n. n ≡ unquoted src t.start t.end)
    go true e = halts (rw e) refl
    go false e = goes (rw e) (record { it = _; gave = refl; so = refl })

-- what a token is: a Quoted, a BareWord, or neither
data Sort (k : ℕ) : Type 0 where
  is_bare : eqb k 131 ≡ true → eqb k 132 ≡ false → Sort k
  is_quote : eqb k 131 ≡ false → eqb k 132 ≡ true → Sort k
  is_other : eqb k 131 ≡ false → eqb k 132 ≡ false → Sort k

sort : (k : ℕ) → Sort k
sort k =
    decide k 131
    (λ e. is_bare (eq-eqb k 131 e) (ne_eqb k 132 (λ q. omega arith)))
    (λ e. decide k 132 (λ q. is_quote e (eq-eqb k 132 q)) (λ q. is_other e q))

-- a name's outer and inner range
abbrev ranges : Range → Range → NameRanges
ranges o i = record { outer = o; inner = i }

name-bare : (src : List ℕ) (t : Rec) → eqb t.kind 132 ≡ false → name_of src t ≡ ranges (span t) (span t)
unfolding name_of
name-bare src t e = rw e

name-quoted : (src : List ℕ) (t : Rec) → eqb t.kind 132 ≡ true → name_of src t ≡ ranges (span t) (unquoted src t.start t.end)
unfolding name_of
name-quoted src t e = rw e

-- what a WITH item binds, as document 01 has it; and what the alias r does
bound_by : Option Binding → Option NameBinding
bound_by None = None
bound_by (Some b) = Some (as_binding b)

ident_by : Rec → Option Ident → Option NameBinding
ident_by r None = None
ident_by r (Some i) = Some (as_binding (binding_of r i.token i.name))

module _ (src : List ℕ) (r : Rec) where
  -- a binding by a name
  abbrev by : NameRanges → Option NameBinding
  by n = Some (record { token = n.outer; name = n.inner; definition = span r })

  abbrev names : Forest → List Rec
  names = direct (is_name src)

  cte-same : (f : Forest) → Reads src f → Came src (first_quoted (names f)) (extract_cte r f src) (λ b. bound_by b ≡ first_named src r (names f))
  unfolding extract_cte direct first_named first_quoted is_quoted bound_by is_name is_as as_binding bind Reads ◌>>=◌
  cte-same nil w = came None refl
  cte-same (token t rest) w = go (sort t.kind) (says_as src (span t)) refl (cte-same rest w.1)
    where
      go : Sort t.kind → (b : Bool) → says_as src (span t) ≡ b → Came src (first_quoted (names rest)) (extract_cte r rest src) (λ b. bound_by b ≡ first_named src r (names rest))
          → Came src (first_quoted (names (token t rest))) (extract_cte r (token t rest) src) (λ b. bound_by b ≡ first_named src r (names (token t rest)))
      go (is_bare x y) true e ih = rw (x, y, w.0.text, e) ih
      go (is_bare x y) false e ih = rw (x, y, w.0.text, e) (rw y (came (Some (binding_of r t (span t))) (ap by (sym (name-bare src t y)))))
      go (is_quote x y) b e ih =
          rw (x, y, w.0.text)
          (rw y (came-then _ (unquoted-came src t w.0) (λ n q. came (Some (binding_of r t n)) (ap by (ap (ranges (span t)) q ∙ sym (name-quoted src t y))))))
      go (is_other x y) b e ih = rw (x, y) ih
  cte-same (node q below rest) w = cte-same rest w.1

  alias-same : (f : Forest) (i : Option Ident) → Reads src f
      → Came src (direct is_quoted f) (extract_alias_name f src i) (λ j. ident_by r j ≡ last_named src r (ident_by r i) (names f))
  unfolding extract_alias_name direct last_named is_quoted ident_by is_name is_as as_binding bind Reads ◌>>=◌
  alias-same nil i w = came i refl
  alias-same (token t rest) i w = go (sort t.kind) (says_as src (span t)) refl (λ j. alias-same rest j w.1)
    where
      go : Sort t.kind → (b : Bool) → says_as src (span t) ≡ b
          → ((j : Option Ident) → Came src (direct is_quoted rest) (extract_alias_name rest src j) (λ k. ident_by r k ≡ last_named src r (ident_by r j) (names rest)))
          → Came src (direct is_quoted (token t rest)) (extract_alias_name (token t rest) src i) (λ j. ident_by r j ≡ last_named src r (ident_by r i) (names (token t rest)))
      go (is_bare x y) true e ih = rw (x, y, w.0.text, e) (ih i)
      go (is_bare x y) false e ih =
          rw (x, y, w.0.text, e)
          (came-so (λ j p. p ∙ ap (λ (n : NameRanges). last_named src r (by n) (names rest)) (sym (name-bare src t y))) (ih (Some (record { name = span t; token = t }))))
      go (is_quote x y) b e ih =
          rw (x, y, w.0.text)
          (came-then _ (unquoted-came src t w.0)
          (λ n q. came-so (λ j p. p ∙ ap (λ (n : NameRanges). last_named src r (by n) (names rest)) (ap (ranges (span t)) q ∙ sym (name-quoted src t y))) (ih (Some (record { name = n; token = t })))))
      go (is_other x y) b e ih = rw (x, y) (ih i)
  alias-same (node q below rest) i w = alias-same rest i w.1

  alias-none : (f : Forest) → Reads src f → Came src (direct is_quoted f) (extract_alias_name f src None) (λ i. ident_by r i ≡ alias_in src r f)
  unfolding ident_by
  alias-none f w = alias-same f None w

-- the parts of a table's name
parts_same : (src : List ℕ) (f : Forest) (g : List Range) → Reads src f → parts f src g ≡ gives (g ++ map (λ (t : Rec). span t) (direct is_part f))
unfolding parts direct is_part Reads ◌>>=◌
parts_same src nil g w = ap gives (sym (append-nil g))
parts_same src (token t rest) g w = rw w.0.text (go (is_part t) (λ h. parts_same src rest h w.1))
  where
    go : (b : Bool) → ((h : List Range) → parts rest src h ≡ gives (h ++ map (λ (t : Rec). span t) (direct is_part rest)))
        → cond b (parts rest src (push g (span t))) (parts rest src g) ≡ gives (g ++ map (λ (t : Rec). span t) (cond b (t ∷ direct is_part rest) (direct is_part rest)))
    go true ih = ih _ ∙ ap gives (append_assoc g (span t ∷ []) _)
    go false ih = ih g
parts_same src (node q below rest) g w = parts_same src rest g w.1

-- what is pending is the same
Pends : Option Reference → Option TableRef → Type 0
Pends None None = Unit
Pends None (Some t) = ⊥
Pends (Some r) None = ⊥
Pends (Some r) (Some t) = reference r ≡ compared t

held : Option Reference → Bool
held None = false
held (Some r) = true

fresh-same : (src : List ℕ) (r : Rec) (ts : List Rec) → Pends (by_parts r (map (λ (t : Rec). span t) ts)) (fresh src r.index ts)
unfolding Pends by_parts fresh reference compared name_of range_or
fresh-same src r [] = tt
fresh-same src r (t ∷ []) = refl
fresh-same src r (d ∷ t ∷ []) = refl
fresh-same src r (d ∷ t ∷ u ∷ more) = tt

fresh-held : (r : Rec) (ts : List Rec) → held (by_parts r (map (λ (t : Rec). span t) ts)) ≡ one_or_two ts
unfolding held by_parts one_or_two
fresh-held r [] = refl
fresh-held r (t ∷ []) = refl
fresh-held r (d ∷ t ∷ []) = refl
fresh-held r (d ∷ t ∷ u ∷ more) = refl

identifier-same : (src : List ℕ) (r : Rec) (f : Forest) → Reads src f
    → Gives (extract_table_identifier r f src) (λ p. Pends p (fresh src r.index (direct is_part f)) × (held p ≡ has_one_or_two f))
unfolding extract_table_identifier
identifier-same src r f w =
    record { it = by_parts r (map (λ (t : Rec). span t) (direct is_part f)); gave = then_is _ (parts_same src f [] w); so = (fresh-same src r (direct is_part f), fresh-held r (direct is_part f)) }

aliased-same : (r : Rec) (p : Option Reference) (q : Option TableRef) (i : Option Ident) → Pends p q → Pends (set_alias p i) (aliased q (ident_by r i))
unfolding Pends set_alias aliased ident_by reference compared range_or as_binding
aliased-same r None None i w = tt
aliased-same r None (Some u) i w = absurd w
aliased-same r (Some t) None i w = absurd w
aliased-same r (Some t) (Some u) None w = w
aliased-same r (Some t) (Some u) (Some i) w = ap (λ (c : Compared). record { «record» = c.«record»; database = c.database; table = c.table; alias = i.name }) w

aliased-held : (p : Option Reference) (i : Option Ident) → held (set_alias p i) ≡ held p
unfolding held set_alias
aliased-held None i = refl
aliased-held (Some t) None = refl
aliased-held (Some t) (Some i) = refl

-- ---- what a part of the pass adds

record Grown (s s' : QueryScope) (w a c : List NameBinding) (r : List Compared) : Type 0 where
  ctes : map as_binding s'.ctes ≡ map as_binding s.ctes ++ w
  tables : map as_binding s'.table_aliases ≡ map as_binding s.table_aliases ++ a
  columns : map as_binding s'.column_aliases ≡ map as_binding s.column_aliases ++ c
  refs : map reference s'.table_refs ≡ map reference s.table_refs ++ r

grown-none : (s : QueryScope) → Grown s s [] [] [] []
grown-none s = record { ctes = sym (append-nil _); tables = sym (append-nil _); columns = sym (append-nil _); refs = sym (append-nil _) }

then-grown : {A : Type 0} (x : List A) {y z : List A} (u v : List A) → y ≡ x ++ u → z ≡ y ++ v → z ≡ x ++ (u ++ v)
then-grown x u v p q = q ∙ rw p (append_assoc x u v)

module _ {s s' s'' : QueryScope} {w w' a a' c c' : List NameBinding} {r r' : List Compared} where
  grown-then : Grown s s' w a c r → Grown s' s'' w' a' c' r' → Grown s s'' (w ++ w') (a ++ a') (c ++ c') (r ++ r')
  grown-then p q =
      record {
        ctes = then-grown (map as_binding s.ctes) w w' p.ctes q.ctes;
        tables = then-grown (map as_binding s.table_aliases) a a' p.tables q.tables;
        columns = then-grown (map as_binding s.column_aliases) c c' p.columns q.columns;
        refs = then-grown (map reference s.table_refs) r r' p.refs q.refs;
      }

-- ---- the four pushes

cte-grown : (s : QueryScope) (b : Option Binding) → Grown s (push_if_cte s b) (entry (bound_by b)) [] [] []
unfolding push_if_cte push_cte entry bound_by
cte-grown s None = grown-none s
cte-grown s (Some b) =
    record { ctes = map-append as_binding s.ctes (b ∷ []); tables = sym (append-nil _); columns = sym (append-nil _); refs = sym (append-nil _) }

column-grown : (s : QueryScope) (r : Rec) (i : Option Ident) → Grown s (push_if_alias s r i) [] [] (entry (ident_by r i)) []
unfolding push_if_alias push_column_alias entry ident_by
column-grown s r None = grown-none s
column-grown s r (Some i) =
    record { ctes = sym (append-nil _); tables = sym (append-nil _); columns = map-append as_binding s.column_aliases (binding_of r i.token i.name ∷ []); refs = sym (append-nil _) }

-- the references of a reading, as they are compared
abbrev compares : Listing Compared
compares = mapped compared references

flush-grown : (s : QueryScope) (p : Option Reference) (q : Option TableRef) → Pends p q → Grown s (flush p s) [] (hand_on aliases q) [] (hand_on compares q)
unfolding flush push_table_ref hand_on Pends
flush-grown s None None w = grown-none s
flush-grown s None (Some t) w = absurd w
flush-grown s (Some r) None w = absurd w
flush-grown s (Some r) (Some t) w =
    record { ctes = sym (append-nil _); tables = sym (append-nil _); columns = sym (append-nil _); refs = rw (← w) (map-append reference s.table_refs (r ∷ [])) }

alias-grown : (s : QueryScope) (r : Rec) (p : Option Reference) (q : Option TableRef) (i : Option Ident) → Pends p q
    → Grown s (push_alias p i r s) [] (list_alias aliases q (ident_by r i)) [] (list_alias compares q (ident_by r i))
unfolding push_alias push_table_alias list_alias Pends ident_by
alias-grown s r None None i w = grown-none s
alias-grown s r None (Some u) i w = absurd w
alias-grown s r (Some t) None i w = absurd w
alias-grown s r (Some t) (Some u) None w = grown-none s
alias-grown s r (Some t) (Some u) (Some i) w =
    record { ctes = sym (append-nil _); tables = map-append as_binding s.table_aliases (binding_of r i.token i.name ∷ []); columns = sym (append-nil _); refs = sym (append-nil _) }

-- the alias of a reading: it is looked at only where a reference is pending
record Aliased (src : List ℕ) (r : Rec) (f : Forest) (p : Option Reference) (q : Option TableRef) (i : Option Ident) : Type 0 where
  pending : Pends (set_alias p i) (aliased q (alias_in src r f))
  pushed : (s : QueryScope) → Grown s (push_alias p i r s) [] (list_alias aliases q (alias_in src r f)) [] (list_alias compares q (alias_in src r f))

pending-came : (src : List ℕ) (r : Rec) (f : Forest) (p : Option Reference) (q : Option TableRef) → Pends p q → Reads src f
    → Came src (cond (held p) (direct is_quoted f) []) (name_if_pending p f src) (Aliased src r f p q)
unfolding name_if_pending held Pends
pending-came src r f None None v w =
    came None (record { pending = unfold set_alias aliased in tt; pushed = λ s. unfold push_alias list_alias in grown-none s })
pending-came src r f None (Some u) v w = absurd v
pending-came src r f (Some t) None v w = absurd v
pending-came src r f (Some t) (Some u) v w =
    came-so
    (λ i e. record { pending = rw (← e) (aliased-same r (Some t) (Some u) i v); pushed = λ s. rw (← e) (alias-grown s r (Some t) (Some u) i v) })
    (alias-none src r f w)

-- ---- the collections

-- a clause: WITH, one with tables, SELECT, or none of them
data Clause (k : ℕ) : Type 0 where
  is_with : eqb k 14 ≡ true → (eqb k 16 || eqb k 17) ≡ false → eqb k 15 ≡ false → Clause k
  is_tables : eqb k 14 ≡ false → (eqb k 16 || eqb k 17) ≡ true → eqb k 15 ≡ false → Clause k
  is_select : eqb k 14 ≡ false → (eqb k 16 || eqb k 17) ≡ false → eqb k 15 ≡ true → Clause k
  is_none : eqb k 14 ≡ false → (eqb k 16 || eqb k 17) ≡ false → eqb k 15 ≡ false → Clause k

clause : (k : ℕ) → Clause k
clause k =
    decide k 14
    (λ e. is_with (eq-eqb k 14 e) (rw (ne_eqb k 16 (λ q. omega arith), ne_eqb k 17 (λ q. omega arith))) (ne_eqb k 15 (λ q. omega arith)))
    (λ n.
    decide k 16
    (λ e. is_tables n (rw (eq-eqb k 16 e)) (ne_eqb k 15 (λ q. omega arith)))
    (λ l.
    decide k 17
    (λ e. is_tables n (rw (l, eq-eqb k 17 e)) (ne_eqb k 15 (λ q. omega arith)))
    (λ m. decide k 15 (λ e. is_select n (rw (l, m)) (eq-eqb k 15 e)) (λ e. is_none n (rw (l, m)) e))))

module _ (src : List ℕ) where
  ctes-came : (f : Forest) (s : QueryScope) → Reads src f → Came src (unquoted_items src f) (collect_ctes f src s) (λ s'. Grown s s' (with_items src f) [] [] [])
  unfolding collect_ctes bound_in given_in Reads
  ctes-came nil s w = came s (grown-none s)
  ctes-came (token t rest) s w = ctes-came rest s w.1
  ctes-came (node r below rest) s w =
      came-then _ (go (eqb r.kind 29) (eqb r.kind 31) (ctes-came below s w.0)) (λ s' g. came-so (λ s'' g'. grown-then g g') (ctes-came rest s' w.1))
    where
      go : (a b : Bool) → Came src (unquoted_items src below) (collect_ctes below src s) (λ s'. Grown s s' (with_items src below) [] [] [])
          → Came src (cond a (first_quoted (direct (is_name src) below)) (cond b (unquoted_items src below) []))
          (cond a (extract_cte r below src >>= (λ b. gives (push_if_cte s b))) (cond b (collect_ctes below src s) (gives s)))
          (λ s'. Grown s s' (cond a (entry (with_item src r below)) (cond b (with_items src below) [])) [] [] [])
      go true b ih =
          rw (← append-nil (first_quoted (direct (is_name src) below)))
          (came-then _ (cte-same src r below w.0) (λ b e. came _ (rw (← e) (cte-grown s b))))
      go false true ih = ih
      go false false ih = came s (grown-none s)

  columns-came : (f : Forest) (s : QueryScope) → Reads src f → Came src (unquoted_columns f) (collect_column_aliases f src s) (λ s'. Grown s s' [] [] (select_aliases src f) [])
  unfolding collect_column_aliases bound_in given_in Reads
  columns-came nil s w = came s (grown-none s)
  columns-came (token t rest) s w = columns-came rest s w.1
  columns-came (node r below rest) s w =
      came-then _ (go (eqb r.kind 36) (eqb r.kind 31 || eqb r.kind 32) (columns-came below s w.0))
      (λ s' g. came-so (λ s'' g'. grown-then g g') (columns-came rest s' w.1))
    where
      go : (a b : Bool) → Came src (unquoted_columns below) (collect_column_aliases below src s) (λ s'. Grown s s' [] [] (select_aliases src below) [])
          → Came src (cond a (direct is_quoted below) (cond b (unquoted_columns below) []))
          (cond a (extract_alias_name below src None >>= (λ i. gives (push_if_alias s r i))) (cond b (collect_column_aliases below src s) (gives s)))
          (λ s'. Grown s s' [] [] (cond a (entry (alias_in src r below)) (cond b (select_aliases src below) [])) [])
      go true b ih =
          rw (← append-nil (direct is_quoted below))
          (came-then _ (alias-none src r below w.0) (λ i e. came _ (rw (← e) (column-grown s r i))))
      go false true ih = ih
      go false false ih = came s (grown-none s)

  -- what the reading of f with q pending adds
  abbrev Read : Option TableRef → Forest → QueryScope → QueryScope → Type 0
  Read q f s s' = Grown s s' [] (table_reading aliases src q f) [] (table_reading compares src q f)

  -- a reading of f with p pending, which is q
  abbrev Reading : Option Reference → Option TableRef → Forest → QueryScope → Type 0
  Reading p q f s = Came src (unquoted_reading (held p) f) (collect_table_refs p f src s) (Read q f s)

  module _ (r : Rec) (below rest : Forest) (p : Option Reference) (q : Option TableRef) (v : Pends p q) (s : QueryScope) (w : Reads src below)
      (ib : (s : QueryScope) → Reading None None below s) (ir : (p : Option Reference) (q : Option TableRef) → Pends p q → (s : QueryScope) → Reading p q rest s) where
    -- what a node gives, by its kind
    abbrev listed : {E : Type 0} → Listing E → Bool → Bool → Bool → Bool → List E
    listed L a b c d =
        cond a (hand_on L q ++ table_reading L src (fresh src r.index (direct is_part below)) rest)
        (cond b (list_alias L q (alias_in src r below) ++ table_reading L src (aliased q (alias_in src r below)) rest)
        (cond c (table_reading L src None below ++ table_reading L src q rest)
        (cond d (hand_on L q ++ (table_reading L src None below ++ table_reading L src None rest)) (table_reading L src q rest))))

    abbrev stopping : Bool → Bool → Bool → Bool → List Rec
    stopping a b c d =
        cond a (unquoted_reading (has_one_or_two below) rest)
        (cond b (cond (held p) (direct is_quoted below) [] ++ unquoted_reading (held p) rest)
        (cond c (unquoted_reading false below ++ unquoted_reading (held p) rest)
        (cond d (unquoted_reading false below ++ unquoted_reading false rest) (unquoted_reading (held p) rest))))

    abbrev running : Bool → Bool → Bool → Bool → Call QueryScope
    running a b c d =
        cond a (extract_table_identifier r below src >>= (λ q. collect_table_refs q rest src (flush p s)))
        (cond b (name_if_pending p below src >>= (λ i. collect_table_refs (set_alias p i) rest src (push_alias p i r s)))
        (cond c (collect_table_refs None below src s >>= (λ s. collect_table_refs p rest src s))
        (cond d (collect_table_refs None below src (flush p s) >>= (λ s. collect_table_refs None rest src s)) (collect_table_refs p rest src s))))

    node-came : (a b c d : Bool) → Came src (stopping a b c d) (running a b c d) (λ s'. Grown s s' [] (listed aliases a b c d) [] (listed compares a b c d))
    unfolding Pends held
    node-came true b c d =
        let g = identifier-same src r below w in
        came-eq (then_is _ g.gave) (came-so (λ s' x. grown-then (flush-grown s p q v) x) (rw g.so.1 at (ir g.it (fresh src r.index (direct is_part below)) g.so.0 (flush p s))))
    node-came false true c d =
        came-then _ (pending-came src r below p q v w)
        (λ i e. came-so (λ s' x. grown-then (e.pushed s) x) (rw (aliased-held p i) at (ir (set_alias p i) (aliased q (alias_in src r below)) e.pending (push_alias p i r s))))
    node-came false false true d = came-then _ (ib s) (λ s' x. came-so (λ s'' x'. grown-then x x') (ir p q v s'))
    node-came false false false true = came-then _ (ib (flush p s)) (λ s' x. came-so (λ s'' x'. grown-then (flush-grown s p q v) (grown-then x x')) (ir None None tt s'))
    node-came false false false false = ir p q v s

  tables-came : (f : Forest) (p : Option Reference) (q : Option TableRef) → Pends p q → (s : QueryScope) → Reads src f → Reading p q f s
  unfolding collect_table_refs table_reading unquoted_reading Reads Pends held
  tables-came nil p q v s w = came (flush p s) (flush-grown s p q v)
  tables-came (token t rest) p q v s w = tables-came rest p q v s w.1
  tables-came (node r below rest) p q v s w =
      node-came r below rest p q v s w.0 (λ s. tables-came below None None tt s w.0) (λ p q v s. tables-came rest p q v s w.1) (eqb r.kind 33) (eqb r.kind 35) (eqb r.kind 34) (eqb r.kind 17)

  -- ---- a node's own part, and its children's

  abbrev AllOf : Forest → QueryScope → QueryScope → Type 0
  AllOf f s s' = Grown s s' (collected (own_with src) f) (collected (own_tables aliases src) f) (collected (own_columns src) f) (collected (own_tables compares src) f)

  module _ (k : ℕ) (f : Forest) (s : QueryScope) (w : Reads src f) (ih : (s : QueryScope) → Came src (collected (own_unquoted src) f) (each_child f src s) (AllOf f s)) where
    abbrev visited : {E : Type 0} → (ℕ → Forest → List E) → List E
    visited own = node_gives own k f (collected own f)

    clause-came : Clause k → Came src (visited (own_unquoted src)) (body k f src (λ s. each_child f src s) s)
        (λ s'. Grown s s' (visited (own_with src)) (visited (own_tables aliases src)) (visited (own_columns src)) (visited (own_tables compares src)))
    unfolding node_gives own_with own_tables own_columns own_unquoted body Pends held
    clause-came (is_with a b c) = rw (a, b, c, append-nil (with_items src f), append-nil (unquoted_items src f)) (ctes-came f s w)
    clause-came (is_tables a b c) = rw (a, b, c) (came-then _ (tables-came f None None tt s w) (λ s' q. came-so (λ s'' q'. grown-then q q') (ih s')))
    clause-came (is_select a b c) = rw (a, b, c) (came-then _ (columns-came f s w) (λ s' q. came-so (λ s'' q'. grown-then q q') (ih s')))
    clause-came (is_none a b c) = rw (a, b, c) (ih s)

  each-came : (f : Forest) (s : QueryScope) → Reads src f → Came src (collected (own_unquoted src) f) (each_child f src s) (AllOf f s)
  unfolding each_child collected Reads
  each-came nil s w = came s (grown-none s)
  each-came (token t rest) s w = each-came rest s w.1
  each-came (node r below rest) s w =
      came-then _ (go (eqb r.kind 30) (clause-came r.kind below s w.0 (λ s. each-came below s w.0) (clause r.kind)))
      (λ s' q. came-so (λ s'' q'. grown-then q q') (each-came rest s' w.1))
    where
      go : (b : Bool) {u : List Rec} {run : Call QueryScope} {w a c : List NameBinding} {x : List Compared} → Came src u run (λ s'. Grown s s' w a c x)
          → Came src (cond b [] u) (cond b (gives s) run) (λ s'. Grown s s' (cond b [] w) (cond b [] a) (cond b [] c) (cond b [] x))
      go true g = came s (grown-none s)
      go false g = g

  abbrev nothing : QueryScope
  nothing = record { ctes = []; table_aliases = []; column_aliases = []; table_refs = [] }

  built : (r : Rec) (f : Forest) → Reads src f → Came src (collection (own_unquoted src) r f) (build_scope r f src)
      (λ s. Grown nothing s (collection (own_with src) r f) (collection (own_tables aliases src) r f) (collection (own_columns src) r f) (collection (own_tables compares src) r f))
  unfolding build_scope collect_scope collection
  built r f w = clause-came r.kind f nothing w (λ s. each-came f s w) (clause r.kind)

-- ---- the enclosing statement

statement-kinds : (k : ℕ) → is_statement_kind k ≡ is_statement k
statement-kinds k = sym (range-list 9 4 k)

or_same : (x y : Option Rec) → found (or_return x y) ≡ or_else (found x) (found y)
unfolding found or_return or_else
or_same None y = refl
or_same (Some r) y = refl

held_same : (r : Rec) (o : ℕ) (deeper : Option Rec) → found (enclosing r o deeper) ≡ cond (holds o r) (or_else (found deeper) (itself r.kind r.index)) None
unfolding enclosing found
held_same r o deeper =
    ⊎_elim
    (λ (h : o < r.start). rw (lt-leb r.start o h, lt-ltb o r.start h) (gone (ltb r.end r.start)))
    (λ (h : r.start ≤ o).
    ⊎_elim
    (λ (g : r.end < o). rw (le-leb r.start o h, lt-leb o r.end g, le-ltb o r.start h, lt-ltb r.end o g) (gone (ltb r.end r.start)))
    (λ (g : o ≤ r.end).
    rw (le-leb r.start o h, le-leb o r.end g, le-ltb o r.start h, le-ltb r.end o g, le-ltb r.end r.start (omega arith))
    (or_same deeper (cond (is_statement_kind r.kind) (Some r) None) ∙ ap (or_else (found deeper)) (rw (statement-kinds r.kind) (own (is_statement r.kind)))))
    (lt-or-le r.end o))
    (lt-or-le o r.start)
  where
    gone : (b : Bool) → found (cond b None None) ≡ None
    gone true = refl
    gone false = refl

    own : (b : Bool) → found (cond b (Some r) None) ≡ cond b (Some r.index) None
    own true = refl
    own false = refl

deeper-same : (f : Forest) (o : ℕ) → found (deeper_statement f o) ≡ first_find o f
unfolding deeper_statement first_find found
deeper-same nil o = refl
deeper-same (token t rest) o = deeper-same rest o
deeper-same (node r below rest) o =
    or_same _ (deeper_statement rest o) ∙ rw (held_same r o (deeper_statement below o), deeper-same below o, deeper-same rest o)

-- ---- the theorem

or-outside : (e : Option ℕ) → or_else e None ≡ e
unfolding or_else
or-outside None = refl
or-outside (Some n) = refl

-- the collection of record i is of what stands inside it
module _ {E : Type 0} (own : ℕ → Forest → List E) (t : List ℕ) (i : ℕ) (h : i < count t) where
  inside-level : inside t i ≡ level (depth_at t i + 1) (from t 0 (i + 1))
  unfolding kids record_at
  inside-level = rw (from_cons t 0 i h)

  collection-is : collection_at own t i ≡ collection own (record_at t 0 i) (inside t i)
  collection-is =
      let a : record_at (part t i (stretch_end t i)) i 0 ≡ record_at t 0 i = rw (zero-add i) at (head-part t 0 i h refl) in
      let b : kids (records i (part t i (stretch_end t i))) ≡ level (depth_at t i + 1) (from t 0 (i + 1)) = rw (zero-add i) at (kids-part t 0 (depth_at t i) i h refl) in
      rw (a, b, inside-level)

-- a call that stops gives nothing
not-both : {A : Type 0} {run : Call A} {x : A} → run ≡ stops → run ≡ gives x → ⊥
not-both p q = let w : ◌≡◌ {A = ℕ} 0 1 = cc in omega arith

true-false : {b : Bool} → b ≡ true → b ≡ false → ⊥
true-false p q = let w : ◌≡◌ {A = ℕ} 0 1 = cc in omega arith

module _ (source t : List ℕ) (ok : verdict t (length source) 0 ≡ Ok tt) (ask : Askable source t) where
  module _ (i : ℕ) (h : i < count t) where
    stopped : (scope_at source t i ≡ stops) ↔ (any_lone source (unquoted_at source t i) ≡ true)
    stopped = go (built source (record_at t 0 i) (inside t i) (reads ok ask i))
      where
        go : {P : QueryScope → Type 0} → Came source (unquoted_at source t i) (scope_at source t i) P → (scope_at source t i ≡ stops) ↔ (any_lone source (unquoted_at source t i) ≡ true)
        go (halts e r) = ((λ p. e), (λ p. r))
        go (goes e g) = ((λ p. absurd (not-both p g.gave)), (λ p. absurd (true-false p e)))

    given : (s : QueryScope) → scope_at source t i ≡ gives s → FourLists source t i s
    given s p = go (built source (record_at t 0 i) (inside t i) (reads ok ask i))
      where
        go : Came source (unquoted_at source t i) (scope_at source t i)
            (λ s. Grown (nothing source) s (collection (own_with source) (record_at t 0 i) (inside t i)) (collection (own_tables aliases source) (record_at t 0 i) (inside t i))
            (collection (own_columns source) (record_at t 0 i) (inside t i)) (collection (own_tables compares source) (record_at t 0 i) (inside t i)))
            → FourLists source t i s
        go (halts e r) = absurd (not-both r p)
        go (goes e g) =
            let q : gives g.it ≡ gives s = sym g.gave ∙ p in
            let same : g.it ≡ s = cc in
            let w = rw same at g.so in
            record {
              with-names = w.ctes ∙ sym (collection-is (own_with source) t i h);
              table-aliases = w.tables ∙ sym (collection-is (own_tables aliases source) t i h);
              column-aliases = w.columns ∙ sym (collection-is (own_columns source) t i h);
              table-refs =
                  w.refs ∙ sym (collection-is (own_tables compares source) t i h)
                  ∙ collection-map compared (own_tables references source) (own_tables compares source) (tables-map compared references source) (part t i (stretch_end t i)) i;
            }

  pub scope-rs : ScopeRs source t
  unfolding enclosing_at first_find
  scope-rs =
      record {
        stops-exactly = stopped;
        four-lists = given;
        enclosing-statement = λ o. held_same (record_at t 0 0) o _ ∙ rw (deeper-same (kids (records 0 t)) o) (sym (or-outside _));
      }
