-- Whose an offered name is: the nearest root of the record that it stands at, said of the table's records.
-- t is the table's bytes, src the source's, o an offset, n and m the numbers of roots, x and y of records.
-- Definitions only; the theorems are in proofs/DeepestQuery.antt, proofs/Entries.antt and proofs/SeenRoots.antt.
use Rattle.std.specs.Prelude.{ℕ, ◌≡◌, Bool, true, false, ◌||◌, ◌⊎◌, eqb, Some}
use mathlib.Core.List.{List, [], ◌∷◌, ◌++◌, Memᴰ}
use Rattle.records.specs.declared.record.Rec.{Rec}
use Rattle.records.specs.Kinds.{with_clause, with_expression_item, table_identifier, table_alias, column_alias}
use Rattle.records.specs.Table.{kind_at, record_at}
use Rattle.forest.specs.Forest.{Forest, inside}
use Rattle.names.specs.declared.names.NameBinding.{NameBinding}
use Rattle.names.specs.Names.{with_item, alias_in}
use Rattle.references.specs.declared.pending.TableRef.{TableRef}
use Rattle.tables.specs.Tables.{references, aliases}
use Rattle.collection.specs.Collection.{own_with, own_columns, own_tables}
use Rattle.lists.specs.Scope.{with_names}
use Rattle.path.specs.Path.{path_at, is_subquery}
use Rattle.forest.specs.Above.{stands_below}
use Rattle.enclosing.specs.Enclosing.{enclosing_roots}
use Rattle.items.specs.Items.{Item, items}
use Rattle.enclosing.specs.Offered.{offered_in}

-- ---- the nearest root

-- record x is record n, or stands below it
abbrev pub at_or_below : List ℕ → ℕ → ℕ → Bool
at_or_below t n x = eqb x n || stands_below t n x

-- the nearest root of record x is n: x is n or stands below it, and neither x nor a record between the two is of kind 30
pub record NearestRoot (t : List ℕ) (n x : ℕ) : Type 0 where
  pub below : at_or_below t n x ≡ true
  pub none_between : (y : ℕ) → stands_below t n y ≡ true → at_or_below t y x ≡ true → is_subquery (kind_at t y) ≡ false

-- no record has both a root and a subquery below that root for its nearest: what belongs to a query around or inside does not belong here
abbrev pub OneRoot : List ℕ → Type 0
OneRoot t = (m n x : ℕ) → stands_below t m n ≡ true → is_subquery (kind_at t n) ≡ true → NearestRoot t m x → NearestRoot t n x → ⊥

-- ---- the deepest subquery on the path

-- a kind 30 node on the path to the offset
pub record QueryOnPath (t : List ℕ) (o : ℕ) (r : Rec) : Type 0 where
  pub on-path : Memᴰ r (path_at t o)
  pub query : is_subquery r.kind ≡ true

-- record n is the deepest of them: each is n or has n below it, and where there is one n is one of them.
-- Record 0 is not, of a File with one SubqueryExpression, and the outermost is not, of one SubqueryExpression in another: both are refuted in
-- worked/NearestExamples.antt, so with such a root this could not be proved
pub record DeepestQuery (t : List ℕ) (o n : ℕ) : Type 0 where
  pub all_above : (r : Rec) → QueryOnPath t o r → at_or_below t r.index n ≡ true
  pub one-of-them : (r : Rec) → QueryOnPath t o r → (q : Rec) × QueryOnPath t o q × (q.index ≡ n)

-- ---- what is offered of a root

-- an entry e of the root n: a clause whose nearest root is n gives it as its own part; and the node in the clause at which it stands, of
-- which `is` is true, has n for its nearest root too
pub record EntryOf {E : Type 0} (own : ℕ → Forest → List E) (is : E → Rec → Forest → Type 0) (t : List ℕ) (n : ℕ) (e : E) : Type 0 where
  pub clause : ℕ
  pub clause-root : NearestRoot t n clause
  pub given : Memᴰ e (own (kind_at t clause) (inside t clause))
  pub place : ℕ
  pub in-clause : stands_below t clause place ≡ true
  pub place-root : NearestRoot t n place
  pub is-it : is e (record_at t 0 place) (inside t place)

-- the table alias e stands at a TableAlias, which names it
abbrev pub alias_at : List ℕ → NameBinding → Rec → Forest → Type 0
alias_at src e r below = (r.kind ≡ table_alias) × (alias_in src r below ≡ Some e)

-- the column alias e stands at a ColumnAlias, which names it
abbrev pub column_at : List ℕ → NameBinding → Rec → Forest → Type 0
column_at src e r below = (r.kind ≡ column_alias) × (alias_in src r below ≡ Some e)

-- the reference e stands at the TableIdentifier whose number it has
abbrev pub reference_at : TableRef → Rec → Forest → Type 0
reference_at e r below = (r.kind ≡ table_identifier) × (r.index ≡ e.«record»)

-- the WITH name e stands at a WithExpressionItem, which names it
abbrev pub item_at : List ℕ → NameBinding → Rec → Forest → Type 0
item_at src e r below = (r.kind ≡ with_expression_item) × (with_item src r below ≡ Some e)

-- the four sorts of entries: a FROM or JOIN gives table aliases and references, a SELECT column aliases, a WITH its names
abbrev pub TableAliasOf : List ℕ → List ℕ → ℕ → NameBinding → Type 0
TableAliasOf src = EntryOf (own_tables aliases src) (alias_at src)

abbrev pub ColumnAliasOf : List ℕ → List ℕ → ℕ → NameBinding → Type 0
ColumnAliasOf src = EntryOf (own_columns src) (column_at src)

abbrev pub TableRefOf : List ℕ → List ℕ → ℕ → TableRef → Type 0
TableRefOf src = EntryOf (own_tables references src) reference_at

abbrev pub WithNameOf : List ℕ → List ℕ → ℕ → NameBinding → Type 0
WithNameOf src = EntryOf (own_with src) (item_at src)

-- ---- the WITH names that a query sees around it

-- the WITH name e, seen from the query n, of the root m around it: an item in a WITH clause names it, clause and item have m for their
-- nearest root, and neither the item nor one before it in the clause holds n
pub record SeenFrom (src t : List ℕ) (n m : ℕ) (e : NameBinding) : Type 0 where
  pub around : stands_below t m n ≡ true
  pub clause : ℕ
  pub clause-kind : kind_at t clause ≡ with_clause
  pub clause-root : NearestRoot t m clause
  pub before : List Item
  pub item : Item
  pub behind : List Item
  pub whole : items (inside t clause) ≡ before ++ item ∷ behind
  pub named : with_item src item.self item.below ≡ Some e
  pub item-root : NearestRoot t m item.self.index
  pub holds_not : (i : Item) → Memᴰ i (before ++ item ∷ []) → stands_below t i.self.index n ≡ false

-- a WITH name at the root n is one of its own, or is seen of an enclosing root
abbrev pub OwnOrSeen : List ℕ → List ℕ → ℕ → NameBinding → Type 0
OwnOrSeen src t n e = WithNameOf src t n e ⊎ ((m : ℕ) × Memᴰ m (enclosing_roots t n) × SeenFrom src t n m e)

-- the WITH names at the root n: its own list comes first, each is its own or seen, and at a root that is no kind 30 the list is its own alone
pub record WithNamesFrom (src t : List ℕ) (n : ℕ) : Type 0 where
  pub more : List NameBinding
  pub own_first : offered_in src t n ≡ with_names src t n ++ more
  pub each : (e : NameBinding) → Memᴰ e (offered_in src t n) → OwnOrSeen src t n e
  pub own_alone : is_subquery (kind_at t n) ≡ false → offered_in src t n ≡ with_names src t n
