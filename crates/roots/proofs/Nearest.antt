-- Where the entries of a collection, of what nodes bind and of a table reading stand: at records that no kind 30 is at or above.
--     clause-of     a collection's entry, in the own part of a clause whose nearest root is the collection's record
--     in-bound      an entry of what nodes of one kind bind
--     in-reading    an entry of a table reading, where it is not pending
-- Assumes nothing.
use Prim.Native.Nat.{ℕ, ◌+◌, ◌≤◌, ◌<◌}
use mathlib.Core.Path.{◌≡◌, refl, sym, ap, ◌∙◌}
use mathlib.Core.Bool.{Bool, true, false, cond}
use mathlib.Core.List.Memᴰ
use mathlib.Core.List.{List, [], ◌++◌, Memᴰ}
use mathlib.Core.Logic.{◌⊎◌, inl, inr, ⊎_elim}
use native.Mathlib.Nat.{zero-add}
use native.Mathlib.Omega.{arith}
use borrow.Author.Tests.{eqb-true}
use lib.Dec.{eqb}
use Rattle.references.specs.declared.pending.TableRef.{TableRef}
use Rattle.std.specs.Prelude.{Option, Some, None}
use Rattle.records.specs.declared.record.Rec.{Rec}
use Rattle.records.specs.Kinds.{with_clause, subquery_expression, table_identifier, table_expression, table_alias, join_clause}
use Rattle.records.specs.Table.{count, depth_at, kind_at, record_at, from, records, part}
use Rattle.forest.specs.Forest.{Forest, nil, token, node, kids, level, stretch_end, inside}
use Rattle.forest.proofs.Laws.{from_cons, kids-part, head-part}
use Rattle.names.specs.declared.names.NameBinding.{NameBinding}
use Rattle.names.specs.Names.{is_part, direct, alias_in}
use Rattle.names.specs.Bindings.{entry, bound_in}
use Rattle.references.specs.References.{fresh}
use Rattle.tables.specs.Tables.{aliased, Listing, hand_on, list_alias, table_reading}
use Rattle.collection.specs.Collection.{node_gives, collected, collection, collection_at}
use Rattle.path.specs.Path.{is_subquery}
use Rattle.roots.specs.Nearest.{NearestRoot}
use Rattle.roots.proofs.Counts.{decide}
use Rattle.roots.proofs.Covers.{Sibling, Cover, inside-cover, Apart, apart-here, apart_in, nearest-self, nearest-below}

-- nothing stands in an empty list
pub in-none : {E A : Type 0} {e : E} → Memᴰ e [] → A
in-none m = absurd (Memᴰ.not-nil m)

pub in_entry : (b : Option NameBinding) (e : NameBinding) → Memᴰ e (entry b) → b ≡ Some e
unfolding entry
in_entry None e m = in-none m
in_entry (Some x) e m = ap Some (sym (Memᴰ.eq_of_singleton m))

-- a kind that passes a test which kind 30 does not pass
pub not-subquery : (test : ℕ → Bool) (k : ℕ) → test k ≡ true → test subquery_expression ≡ false → is_subquery k ≡ false
not-subquery test k e d =
    decide k subquery_expression
    (λ q. absurd (let y : true ≡ false = sym e ∙ ap test q ∙ d in let z : ◌≡◌ {A = ℕ} 0 1 = cc in omega arith))
    (λ q. q)

module _ (t : List ℕ) where
  -- ---- an entry that stands at a record among siblings

  pub record Met {E : Type 0} (is : E → Rec → Forest → Type 0) (lo hi : ℕ) (e : E) : Type 0 where
    pub at : ℕ
    pub apart : Apart t lo hi at
    pub it : is e (record_at t 0 at) (inside t at)

  module _ {E : Type 0} (is : E → Rec → Forest → Type 0) where
    met-here : (lo hi : ℕ) (r : Rec) (f : Forest) (e : E) → Sibling t lo hi r → f ≡ inside t r.index → is_subquery r.kind ≡ false → is e r f → Met is lo hi e
    met-here lo hi r f e s b k w = record { at = r.index; apart = apart-here t s k; it = rw (← b, ← s.itself) w }

    met-in : (lo hi : ℕ) (r : Rec) (e : E) → Sibling t lo hi r → is_subquery r.kind ≡ false → Met is (r.index + 1) (stretch_end t r.index) e → Met is lo hi e
    met-in lo hi r e s k w = record { at = w.at; apart = apart_in t s k w.apart; it = w.it }

  -- ---- a collection's entries stand in the own parts of nodes that no kind 30 is at or above

  module _ {E : Type 0} (own : ℕ → Forest → List E) where
    abbrev of_own : E → Rec → Forest → Type 0
    of_own e r f = Memᴰ e (own r.kind f)

    in-gives : (k : ℕ) (f : Forest) (inner : List E) (e : E) → Memᴰ e (node_gives own k f inner) → Memᴰ e (own k f) ⊎ Memᴰ e inner
    unfolding node_gives
    in-gives k f inner e m = ⊎_elim inl (λ n. inr (go (eqb k with_clause) n)) (Memᴰ.append_cases (own k f) m)
      where
        go : (b : Bool) → Memᴰ e (cond b [] inner) → Memᴰ e inner
        go true n = in-none n
        go false n = n

    in-collected : (f : Forest) (lo hi : ℕ) (e : E) → Cover t lo hi f → Memᴰ e (collected own f) → Met of_own lo hi e
    unfolding collected Cover
    in-collected nil lo hi e w m = in-none m
    in-collected (token r rest) lo hi e w m = in-collected rest lo hi e w m
    in-collected (node r f rest) lo hi e w m =
        ⊎_elim
        (go (eqb r.kind subquery_expression) refl (in-collected f (r.index + 1) (stretch_end t r.index) e w.2))
        (in-collected rest lo hi e w.3)
        (Memᴰ.append_cases _ m)
      where
        go : (b : Bool) → eqb r.kind subquery_expression ≡ b → (Memᴰ e (collected own f) → Met of_own (r.index + 1) (stretch_end t r.index) e)
            → Memᴰ e (cond b [] (node_gives own r.kind f (collected own f))) → Met of_own lo hi e
        go true q d n = in-none n
        go false q d n =
            ⊎_elim
            (met-here of_own lo hi r f e w.0 w.1 q)
            (λ i. met-in of_own lo hi r e w.0 q (d i))
            (in-gives r.kind f (collected own f) e n)

    -- of a record of the table
    its-collection : (n : ℕ) → n < count t → collection_at own t n ≡ collection own (record_at t 0 n) (inside t n)
    its-collection n h =
        let a : record_at (part t n (stretch_end t n)) n 0 ≡ record_at t 0 n = rw (zero-add n) at (head-part t 0 n h refl) in
        let b : kids (records n (part t n (stretch_end t n))) ≡ level (depth_at t n + 1) (from t 0 (n + 1)) = rw (zero-add n) at (kids-part t 0 (depth_at t n) n h refl) in
        rw (a, b, from_cons t 0 n h) (unfold kids record_at in refl)

    -- a clause of the root n, and what its own part gives
    pub record ClauseOf (n : ℕ) (e : E) : Type 0 where
      pub clause : ℕ
      pub within : clause < count t
      pub inner : stretch_end t clause ≤ stretch_end t n
      pub nearest-root : NearestRoot t n clause
      pub given : Memᴰ e (own (kind_at t clause) (inside t clause))

    pub clause-of : (n : ℕ) (e : E) → n < count t → Memᴰ e (collection_at own t n) → ClauseOf n e
    unfolding collection record_at
    clause-of n e h m =
        ⊎_elim
        (λ g. record { clause = n; within = h; inner = omega arith; nearest-root = nearest-self t n; given = g })
        (λ i.
        let w = in-collected (inside t n) (n + 1) (stretch_end t n) e (inside-cover t n h) i in
        record {
          clause = w.at;
          within = w.apart.within;
          inner = w.apart.high;
          nearest-root = nearest-below t n w.at w.apart;
          given = w.it;
        })
        (in-gives (kind_at t n) (inside t n) (collected own (inside t n)) e (rw (its-collection n h) at m))

  -- ---- what the nodes of one kind bind

  module _ (kind : ℕ) (is_list : ℕ → Bool) (bind : Rec → Forest → Option NameBinding) (not-kind : eqb subquery_expression kind ≡ false) (not-list : is_list subquery_expression ≡ false) where
    abbrev binds : NameBinding → Rec → Forest → Type 0
    binds e r f = (r.kind ≡ kind) × (bind r f ≡ Some e)

    pub in-bound : (f : Forest) (lo hi : ℕ) (e : NameBinding) → Cover t lo hi f → Memᴰ e (bound_in kind is_list bind f) → Met binds lo hi e
    unfolding bound_in Cover
    in-bound nil lo hi e w m = in-none m
    in-bound (token r rest) lo hi e w m = in-bound rest lo hi e w m
    in-bound (node r f rest) lo hi e w m =
        ⊎_elim
        (go (eqb r.kind kind) (is_list r.kind) refl refl (in-bound f (r.index + 1) (stretch_end t r.index) e w.2))
        (in-bound rest lo hi e w.3)
        (Memᴰ.append_cases _ m)
      where
        go : (a b : Bool) → eqb r.kind kind ≡ a → is_list r.kind ≡ b
            → (Memᴰ e (bound_in kind is_list bind f) → Met binds (r.index + 1) (stretch_end t r.index) e)
            → Memᴰ e (cond a (entry (bind r f)) (cond b (bound_in kind is_list bind f) [])) → Met binds lo hi e
        go true b p q d n =
            met-here binds lo hi r f e w.0 w.1 (not-subquery (λ k. eqb k kind) r.kind p not-kind) (eqb-true r.kind kind p, in_entry (bind r f) e n)
        go false true p q d n = met-in binds lo hi r e w.0 (not-subquery is_list r.kind q not-list) (d n)
        go false false p q d n = in-none n

  -- ---- what a table reading lists, where Pends p e says that e is, or is made of, what is pending

  module _ {E : Type 0} (L : Listing E) (src : List ℕ) (Pends : Option TableRef → E → Type 0) (is : E → Rec → Forest → Type 0)
      (hand : (p : Option TableRef) (e : E) → Memᴰ e (hand_on L p) → Pends p e)
      (keep : (p : Option TableRef) (b : Option NameBinding) (e : E) → Pends (aliased p b) e → Pends p e)
      (idle : (e : E) → Pends None e → ⊥)
      (name-is : (r : Rec) (f : Forest) (e : E) → r.kind ≡ table_identifier → Pends (fresh src r.index (direct is_part f)) e → is e r f)
      (alias-is : (p : Option TableRef) (r : Rec) (f : Forest) (e : E) → r.kind ≡ table_alias → Memᴰ e (list_alias L p (alias_in src r f)) → is e r f) where
    abbrev read : Option TableRef → Forest → List E
    read = table_reading L src

    pub in-reading : (f : Forest) (p : Option TableRef) (lo hi : ℕ) (e : E) → Cover t lo hi f → Memᴰ e (read p f) → Pends p e ⊎ Met is lo hi e
    unfolding table_reading Cover
    in-reading nil p lo hi e w m = inl (hand p e m)
    in-reading (token r rest) p lo hi e w m = in-reading rest p lo hi e w m
    in-reading (node r f rest) p lo hi e w m =
        go (eqb r.kind table_identifier) (eqb r.kind table_alias) (eqb r.kind table_expression) (eqb r.kind join_clause) refl refl refl refl
        (λ n. ⊎_elim (λ x. absurd (idle e x)) (λ x. x) (in-reading f None (r.index + 1) (stretch_end t r.index) e w.2 n))
        (λ q n. in-reading rest q lo hi e w.3 n) m
      where
        go : (a b c d : Bool) → eqb r.kind table_identifier ≡ a → eqb r.kind table_alias ≡ b → eqb r.kind table_expression ≡ c → eqb r.kind join_clause ≡ d
            → (Memᴰ e (read None f) → Met is (r.index + 1) (stretch_end t r.index) e)
            → ((q : Option TableRef) → Memᴰ e (read q rest) → Pends q e ⊎ Met is lo hi e)
            → Memᴰ e (cond a (hand_on L p ++ read (fresh src r.index (direct is_part f)) rest)
            (cond b (list_alias L p (alias_in src r f) ++ read (aliased p (alias_in src r f)) rest)
            (cond c (read None f ++ read p rest) (cond d (hand_on L p ++ (read None f ++ read None rest)) (read p rest)))))
            → Pends p e ⊎ Met is lo hi e
        go true b c d x y z u down on m =
            ⊎_elim
            (λ n. inl (hand p e n))
            (λ n.
            ⊎_elim
            (λ i. inr (met-here is lo hi r f e w.0 w.1 (not-subquery (λ k. eqb k table_identifier) r.kind x refl) (name-is r f e (eqb-true r.kind table_identifier x) i)))
            inr
            (on (fresh src r.index (direct is_part f)) n))
            (Memᴰ.append_cases (hand_on L p) m)
        go false true c d x y z u down on m =
            ⊎_elim
            (λ n. inr (met-here is lo hi r f e w.0 w.1 (not-subquery (λ k. eqb k table_alias) r.kind y refl) (alias-is p r f e (eqb-true r.kind table_alias y) n)))
            (λ n. ⊎_elim (λ i. inl (keep p (alias_in src r f) e i)) inr (on (aliased p (alias_in src r f)) n))
            (Memᴰ.append_cases (list_alias L p (alias_in src r f)) m)
        go false false true d x y z u down on m =
            ⊎_elim
            (λ n. inr (met-in is lo hi r e w.0 (not-subquery (λ k. eqb k table_expression) r.kind z refl) (down n)))
            (on p)
            (Memᴰ.append_cases (read None f) m)
        go false false false true x y z u down on m =
            ⊎_elim
            (λ n. inl (hand p e n))
            (λ n.
            ⊎_elim
            (λ i. inr (met-in is lo hi r e w.0 (not-subquery (λ k. eqb k join_clause) r.kind u refl) (down i)))
            (λ i. ⊎_elim (λ j. absurd (idle e j)) inr (on None i))
            (Memᴰ.append_cases (read None f) n))
            (Memᴰ.append_cases (hand_on L p) m)
        go false false false false x y z u down on m = on p m
