-- Whose the entries of a root are: each stands in a clause, and at a node in it, whose nearest root it is.
--     table-alias-of, column-alias-of, table-ref-of, with-name-of    of any record of any table
-- Assumes nothing.
use Prim.Native.Nat.{ℕ, ◌+◌, ◌<◌}
use mathlib.Core.Path.{◌≡◌, refl, sym, ap}
use mathlib.Core.Bool.{Bool, true, false, cond, ◌||◌}
use mathlib.Core.List.Memᴰ
use mathlib.Core.List.{List, [], ◌∷◌, Memᴰ}
use mathlib.Core.Logic.{⊎_elim}
use lib.Dec.{eqb}
use Rattle.std.specs.Prelude.{Option, Some, None}
use Rattle.records.specs.declared.record.Rec.{Rec}
use Rattle.records.specs.Kinds.{with_clause, select_clause, from_clause, with_expression_item, column_list, expression_list, column_alias, join_clause}
use Rattle.records.specs.Table.{count, kind_at}
use Rattle.forest.specs.Forest.{Forest, stretch_end, inside}
use Rattle.names.specs.declared.names.NameBinding.{NameBinding}
use Rattle.names.specs.Names.{is_part, direct, with_item, alias_in}
use Rattle.names.specs.Bindings.{bound_in}
use Rattle.references.specs.declared.pending.TableRef.{TableRef}
use Rattle.references.specs.References.{fresh}
use Rattle.tables.specs.Tables.{aliased, hand_on, list_alias, table_reading, references, aliases}
use Rattle.collection.specs.Collection.{own_with, own_columns, own_tables, collection_at}
use Rattle.lists.specs.Scope.{with_names, table_aliases, column_aliases, table_refs}
use Rattle.roots.specs.Nearest.{EntryOf, alias_at, column_at, reference_at, item_at, TableAliasOf, ColumnAliasOf, TableRefOf, WithNameOf}
use Rattle.roots.proofs.Nearest.{in-none, Met, clause-of, in-bound, in-reading}
use Rattle.roots.proofs.Covers.{Cover, inside-cover, apart_below, nearest_in}

module _ (t : List ℕ) where
  -- ---- THE FOUR LISTS of record n

  entry_of : {E : Type 0} (own : ℕ → Forest → List E) (is : E → Rec → Forest → Type 0)
      → ((k : ℕ) (f : Forest) (lo hi : ℕ) (e : E) → Cover t lo hi f → Memᴰ e (own k f) → Met t is lo hi e)
      → (n : ℕ) (e : E) → n < count t → Memᴰ e (collection_at own t n) → EntryOf own is t n e
  entry_of own is parts n e h m =
      let c = clause-of t own n e h m in
      let w = parts (kind_at t c.clause) (inside t c.clause) (c.clause + 1) (stretch_end t c.clause) e (inside-cover t c.clause c.within) c.given in
      record {
        clause = c.clause;
        clause-root = c.nearest-root;
        given = c.given;
        place = w.at;
        in-clause = apart_below t c.clause w.at w.apart;
        place-root = nearest_in t n c.clause w.at c.within c.inner c.nearest-root w.apart;
        is-it = w.it;
      }

  module _ (src : List ℕ) where
    -- no alias is pending
    none-pends : (p : Option TableRef) (e : NameBinding) → Memᴰ e (hand_on aliases p) → ⊥
    unfolding hand_on
    none-pends None e m = Memᴰ.not-nil m
    none-pends (Some r) e m = Memᴰ.not-nil m

    alias-listed : (p : Option TableRef) (b : Option NameBinding) (e : NameBinding) → Memᴰ e (list_alias aliases p b) → b ≡ Some e
    unfolding list_alias
    alias-listed None b e m = in-none m
    alias-listed (Some r) None e m = in-none m
    alias-listed (Some r) (Some x) e m = ap Some (sym (Memᴰ.eq_of_singleton m))

    in-aliases : (k : ℕ) (f : Forest) (lo hi : ℕ) (e : NameBinding) → Cover t lo hi f → Memᴰ e (own_tables aliases src k f) → Met t (alias_at src) lo hi e
    unfolding own_tables
    in-aliases k f lo hi e w m = go (eqb k from_clause || eqb k join_clause) m
      where
        go : (b : Bool) → Memᴰ e (cond b (table_reading aliases src None f) []) → Met t (alias_at src) lo hi e
        go true n =
            ⊎_elim absurd (λ x. x)
            (in-reading t aliases src (λ p x. ⊥) (alias_at src) none-pends (λ p b x i. i) (λ x i. i) (λ r g x q i. absurd i)
            (λ p r g x q i. (q, alias-listed p (alias_in src r g) x i)) f None lo hi e w n)
        go false n = in-none n

    -- a reference is pending under its number
    Waits : Option TableRef → TableRef → Type 0
    Waits None e = ⊥
    Waits (Some r) e = r.«record» ≡ e.«record»

    handed : (p : Option TableRef) (e : TableRef) → Memᴰ e (hand_on references p) → Waits p e
    unfolding hand_on Waits
    handed None e m = Memᴰ.not-nil m
    handed (Some r) e m = ap (λ (x : TableRef). x.«record») (sym (Memᴰ.eq_of_singleton m))

    kept : (p : Option TableRef) (b : Option NameBinding) (e : TableRef) → Waits (aliased p b) e → Waits p e
    unfolding aliased Waits
    kept None b e w = w
    kept (Some r) None e w = w
    kept (Some r) (Some x) e w = w

    idles : (e : TableRef) → Waits None e → ⊥
    unfolding Waits
    idles e w = w

    started : (i : ℕ) (parts : List Rec) (e : TableRef) → Waits (fresh src i parts) e → i ≡ e.«record»
    unfolding fresh Waits
    started i [] e w = absurd w
    started i (a ∷ []) e w = w
    started i (a ∷ b ∷ []) e w = w
    started i (a ∷ b ∷ c ∷ more) e w = absurd w

    none-listed : {A : Type 0} (p : Option TableRef) (b : Option NameBinding) (e : TableRef) → Memᴰ e (list_alias references p b) → A
    unfolding list_alias
    none-listed None b e m = in-none m
    none-listed (Some r) None e m = in-none m
    none-listed (Some r) (Some x) e m = in-none m

    in-references : (k : ℕ) (f : Forest) (lo hi : ℕ) (e : TableRef) → Cover t lo hi f → Memᴰ e (own_tables references src k f) → Met t reference_at lo hi e
    unfolding own_tables
    in-references k f lo hi e w m = go (eqb k from_clause || eqb k join_clause) m
      where
        go : (b : Bool) → Memᴰ e (cond b (table_reading references src None f) []) → Met t reference_at lo hi e
        go true n =
            ⊎_elim (λ i. absurd (idles e i)) (λ x. x)
            (in-reading t references src Waits reference_at handed kept idles (λ r g x q i. (q, started r.index (direct is_part g) x i))
            (λ p r g x q i. none-listed p (alias_in src r g) x i) f None lo hi e w n)
        go false n = in-none n

    in-columns : (k : ℕ) (f : Forest) (lo hi : ℕ) (e : NameBinding) → Cover t lo hi f → Memᴰ e (own_columns src k f) → Met t (column_at src) lo hi e
    unfolding own_columns
    in-columns k f lo hi e w m = go (eqb k select_clause) m
      where
        go : (b : Bool) → Memᴰ e (cond b (bound_in column_alias (λ x. eqb x column_list || eqb x expression_list) (alias_in src) f) []) → Met t (column_at src) lo hi e
        go true n = in-bound t column_alias (λ x. eqb x column_list || eqb x expression_list) (alias_in src) refl refl f lo hi e w n
        go false n = in-none n

    in-with : (k : ℕ) (f : Forest) (lo hi : ℕ) (e : NameBinding) → Cover t lo hi f → Memᴰ e (own_with src k f) → Met t (item_at src) lo hi e
    unfolding own_with
    in-with k f lo hi e w m = go (eqb k with_clause) m
      where
        go : (b : Bool) → Memᴰ e (cond b (bound_in with_expression_item (λ x. eqb x column_list) (with_item src) f) []) → Met t (item_at src) lo hi e
        go true n = in-bound t with_expression_item (λ x. eqb x column_list) (with_item src) refl refl f lo hi e w n
        go false n = in-none n

    module _ (n : ℕ) (h : n < count t) where
      pub table-alias-of : (e : NameBinding) → Memᴰ e (table_aliases src t n) → TableAliasOf src t n e
      table-alias-of e = entry_of (own_tables aliases src) (alias_at src) in-aliases n e h

      pub column-alias-of : (e : NameBinding) → Memᴰ e (column_aliases src t n) → ColumnAliasOf src t n e
      column-alias-of e = entry_of (own_columns src) (column_at src) in-columns n e h

      pub table-ref-of : (e : TableRef) → Memᴰ e (table_refs src t n) → TableRefOf src t n e
      table-ref-of e = entry_of (own_tables references src) reference_at in-references n e h

      pub with-name-of : (e : NameBinding) → Memᴰ e (with_names src t n) → WithNameOf src t n e
      with-name-of e = entry_of (own_with src) (item_at src) in-with n e h
