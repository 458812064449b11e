-- Whose the WITH names at a root are: its own, or of a root around it, of whose clauses the item that holds the query and those behind it are out.
--     with-names-from    of every node of an admitted table
-- Assumes nothing.
use Prim.Native.Nat.{ℕ, zero, suc, ◌+◌, ◌-◌, ◌≤◌, ◌<◌}
use mathlib.Core.Path.{◌≡◌, refl, ap}
use mathlib.Core.Bool.{Bool, true, false, cond}
use mathlib.Core.List.{List, [], ◌∷◌, ◌++◌, append-nil, Memᴰ}
use mathlib.Core.Logic.{◌⊎◌, inl, inr, ⊎_elim}
use native.Mathlib.Omega.{arith}
use borrow.Author.Tests.{eqb-true, ltb-true}
use lib.Dec.{eqb, ltb}
use Rattle.std.specs.Prelude.{Some}
use Rattle.records.specs.Kinds.{with_clause, with_expression_item, column_list}
use Rattle.records.specs.Table.{count, depth_at, kind_at}
use Rattle.forest.specs.Forest.{Forest, nil, token, node, stretch_end, inside}
use Rattle.forest.specs.Sense.{Tidy}
use Rattle.forest.proofs.Reaches.{reaches-yes}
use Rattle.names.specs.declared.names.NameBinding.{NameBinding}
use Rattle.names.specs.Names.{with_item}
use Rattle.names.specs.Bindings.{entry}
use Rattle.lists.specs.Scope.{with_names}
use Rattle.path.specs.Path.{is_subquery}
use Rattle.statement.specs.Statement.{is_statement}
use Rattle.forest.specs.Above.{stands_below, above_among, above}
use Rattle.enclosing.specs.Enclosing.{queries, some_query, beyond, statement_among, last_root, roots_among, enclosing_roots}
use Rattle.seen.specs.Seen.{own_seen, seen_of}
use Rattle.items.specs.Items.{Item, items, items_before, bound_by}
use Rattle.enclosing.specs.Offered.{seen_of_all, offered_in}
use Rattle.roots.specs.Nearest.{SeenFrom, WithNamesFrom}
use Rattle.roots.proofs.Covers.{stands-below, Cover, inside-cover, Apart, apart-here, apart_in, nearest_in}
use Rattle.roots.proofs.Nearest.{in-none, in_entry, not-subquery, clause-of}
use Rattle.roots.proofs.Entries.{with-name-of}

module _ (t : List ℕ) where
  -- ---- the roots around stand above

  module _ (n : ℕ) where
    -- the record x has n below it
    abbrev Around : ℕ → Type 0
    Around x = (x < n) × (n < stretch_end t x)

    above-around : (i x : ℕ) → i ≤ n → Memᴰ x (above_among t n i) → Around x
    unfolding above_among
    above-around zero x h m = in-none m
    above-around (suc i) x h m = go (ltb n (stretch_end t i)) refl m (above-around i x (omega arith))
      where
        go : (b : Bool) → ltb n (stretch_end t i) ≡ b → Memᴰ x (cond b (i ∷ above_among t n i) (above_among t n i))
            → (Memᴰ x (above_among t n i) → Around x) → Around x
        go true e m f = ⊎_elim (λ q. rw q (omega arith, ltb-true n (stretch_end t i) e)) f (mathlib.Core.List.Memᴰ.cases_cons m)
        go false e m f = f m

    query-among : (xs : List ℕ) (x : ℕ) → Memᴰ x (queries t xs) → Memᴰ x xs
    unfolding queries
    query-among [] x m = m
    query-among (y ∷ xs) x m = go (is_subquery (kind_at t y)) m (query-among xs x)
      where
        go : (b : Bool) → Memᴰ x (cond b (y ∷ queries t xs) (queries t xs)) → (Memᴰ x (queries t xs) → Memᴰ x xs) → Memᴰ x (y ∷ xs)
        go true m f = ⊎_elim mathlib.Core.List.Memᴰ.head (λ i. mathlib.Core.List.Memᴰ.tail (f i)) (mathlib.Core.List.Memᴰ.cases_cons m)
        go false m f = mathlib.Core.List.Memᴰ.tail (f m)

    beyond-among : (xs : List ℕ) (x : ℕ) → Memᴰ x (beyond t xs) → Memᴰ x xs
    unfolding beyond
    beyond-among [] x m = m
    beyond-among (y ∷ xs) x m = go (some_query t (y ∷ xs)) m (beyond-among xs x)
      where
        go : (b : Bool) → Memᴰ x (cond b (beyond t xs) (y ∷ xs)) → (Memᴰ x (beyond t xs) → Memᴰ x xs) → Memᴰ x (y ∷ xs)
        go true m f = mathlib.Core.List.Memᴰ.tail (f m)
        go false m f = m

    statement-among : (xs : List ℕ) → Memᴰ (statement_among t xs) xs ⊎ (statement_among t xs ≡ 0)
    unfolding statement_among
    statement-among [] = inr refl
    statement-among (y ∷ xs) = go (is_statement (kind_at t y)) (statement-among xs)
      where
        go : (b : Bool) → Memᴰ (statement_among t xs) xs ⊎ (statement_among t xs ≡ 0)
            → Memᴰ (cond b y (statement_among t xs)) (y ∷ xs) ⊎ (cond b y (statement_among t xs) ≡ 0)
        go true w = inl (mathlib.Core.List.Memᴰ.head refl)
        go false w = ⊎_elim (λ i. inl (mathlib.Core.List.Memᴰ.tail i)) inr w

    module _ (s : ℕ) (w : Tidy t s) (h : n < count t) where
      -- record 0 has every other one below it
      first-around : 0 < n → Around 0
      first-around g = (
        g,
        reaches-yes t 0 n h g (λ j a b. let e : depth_at t 0 ≡ 0 = w.top.1 in let q : j - 1 + 1 ≡ j = omega arith in
            omega (arith, rw q at (w.under (j - 1) (omega arith)))),
      )

      last-around : (xs : List ℕ) → ((x : ℕ) → Memᴰ x xs → Around x) → (x : ℕ) → Memᴰ x (last_root t xs) → Around x
      unfolding last_root
      last-around [] f x m = in-none m
      last-around (y ∷ xs) f x m =
          rw (mathlib.Core.List.Memᴰ.eq_of_singleton m)
          (⊎_elim
          (f (statement_among t (y ∷ xs)))
          (λ e. rw e (first-around (omega (arith, (f y (mathlib.Core.List.Memᴰ.head refl)).0))))
          (statement-among (y ∷ xs)))

      root-around : (x : ℕ) → Memᴰ x (enclosing_roots t n) → Around x
      unfolding enclosing_roots roots_among
      root-around x m = go (is_subquery (kind_at t n)) m
        where
          go : (b : Bool) → Memᴰ x (cond b (queries t (above t n) ++ last_root t (beyond t (above t n))) []) → Around x
          go true m =
              ⊎_elim
              (λ i. above-around n x (omega arith) (query-among (above t n) x i))
              (last-around (beyond t (above t n)) (λ y i. above-around n y (omega arith) (beyond-among (above t n) y i)) x)
              (mathlib.Core.List.Memᴰ.append_cases (queries t (above t n)) m)
          go false m = in-none m

  -- ---- the items of a clause

  in-items : (f : Forest) (lo hi : ℕ) (i : Item) → Cover t lo hi f → Memᴰ i (items f) → Apart t lo hi i.self.index
  unfolding items Cover
  in-items nil lo hi i w m = in-none m
  in-items (token r rest) lo hi i w m = in-items rest lo hi i w m
  in-items (node r f rest) lo hi i w m =
      ⊎_elim
      (go (eqb r.kind with_expression_item) (eqb r.kind column_list) refl refl (in-items f (r.index + 1) (stretch_end t r.index) i w.2))
      (in-items rest lo hi i w.3)
      (mathlib.Core.List.Memᴰ.append_cases _ m)
    where
      go : (a b : Bool) → eqb r.kind with_expression_item ≡ a → eqb r.kind column_list ≡ b
          → (Memᴰ i (items f) → Apart t (r.index + 1) (stretch_end t r.index) i.self.index)
          → Memᴰ i (cond a (record { self = r; below = f } ∷ []) (cond b (items f) [])) → Apart t lo hi i.self.index
      go true b p q d m = rw (mathlib.Core.List.Memᴰ.eq_of_singleton m) (apart-here t w.0 (not-subquery (λ k. eqb k with_expression_item) r.kind p refl))
      go false true p q d m = apart_in t w.0 (not-subquery (λ k. eqb k column_list) r.kind q refl) (d m)
      go false false p q d m = in-none m

  module _ (src : List ℕ) (n : ℕ) where
    -- an item that binds e, with those before it: none of them holds n
    record NamedIn (is : List Item) (e : NameBinding) : Type 0 where
      before : List Item
      item : Item
      behind : List Item
      whole : is ≡ before ++ item ∷ behind
      named : with_item src item.self item.below ≡ Some e
      holds_not : (i : Item) → Memᴰ i (before ++ item ∷ []) → stands_below t i.self.index n ≡ false

    bound-before : (is : List Item) (e : NameBinding) → Memᴰ e (bound_by src (items_before t n is)) → NamedIn is e
    unfolding items_before bound_by
    bound-before [] e m = in-none m
    bound-before (i ∷ is) e m = go (stands_below t i.self.index n) refl (bound-before is e) m
      where
        go : (b : Bool) → stands_below t i.self.index n ≡ b → (Memᴰ e (bound_by src (items_before t n is)) → NamedIn is e)
            → Memᴰ e (bound_by src (cond b [] (i ∷ items_before t n is))) → NamedIn (i ∷ is) e
        go true q f m = in-none m
        go false q f m =
            ⊎_elim
            (λ g.
            record {
              before = [];
              item = i;
              behind = is;
              whole = refl;
              named = in_entry (with_item src i.self i.below) e g;
              holds_not = λ j k. rw (mathlib.Core.List.Memᴰ.eq_of_singleton k) q;
            })
            (λ g.
            let w = f g in
            record {
              before = i ∷ w.before;
              item = w.item;
              behind = w.behind;
              whole = ap (λ (l : List Item). i ∷ l) w.whole;
              named = w.named;
              holds_not = λ j k. ⊎_elim (λ (z : j ≡ i). rw z q) (w.holds_not j) (mathlib.Core.List.Memᴰ.cases_cons k);
            })
            (mathlib.Core.List.Memᴰ.append_cases (entry (with_item src i.self i.below)) m)

    in-seen : (k : ℕ) (f : Forest) (e : NameBinding) → Memᴰ e (own_seen src t n k f) → (k ≡ with_clause) × NamedIn (items f) e
    unfolding own_seen
    in-seen k f e m = go (eqb k with_clause) refl m
      where
        go : (b : Bool) → eqb k with_clause ≡ b → Memᴰ e (cond b (bound_by src (items_before t n (items f))) []) → (k ≡ with_clause) × NamedIn (items f) e
        go true q m = (eqb-true k with_clause q, bound-before (items f) e m)
        go false q m = in-none m

    seen-from : (m : ℕ) (e : NameBinding) → n < count t → Around n m → Memᴰ e (seen_of src t n m) → SeenFrom src t n m e
    seen-from m e h a i =
        let c = clause-of t (own_seen src t n) m e (omega (arith, a.0)) i in
        let b = in-seen (kind_at t c.clause) (inside t c.clause) e c.given in
        let w = b.1 in
        let p : Memᴰ w.item (items (inside t c.clause)) = rw w.whole (mathlib.Core.List.Memᴰ.append_right w.before (mathlib.Core.List.Memᴰ.head refl)) in
        record {
          around = stands-below t m n a.0 a.1;
          clause = c.clause;
          clause-kind = b.0;
          clause-root = c.nearest-root;
          before = w.before;
          item = w.item;
          behind = w.behind;
          whole = w.whole;
          named = w.named;
          item-root =
              nearest_in t m c.clause w.item.self.index c.within c.inner c.nearest-root
              (in-items (inside t c.clause) (c.clause + 1) (stretch_end t c.clause) w.item (inside-cover t c.clause c.within) p);
          holds_not = w.holds_not;
        }

    in_all : (ms : List ℕ) (e : NameBinding) → Memᴰ e (seen_of_all src t n ms) → (m : ℕ) × Memᴰ m ms × Memᴰ e (seen_of src t n m)
    unfolding seen_of_all
    in_all [] e i = in-none i
    in_all (m ∷ ms) e i =
        ⊎_elim
        (λ g. (m, mathlib.Core.List.Memᴰ.head refl, g))
        (λ g. let w = in_all ms e g in (w.0, mathlib.Core.List.Memᴰ.tail w.1, w.2))
        (mathlib.Core.List.Memᴰ.append_cases (seen_of src t n m) i)

    pub with-names-from : (s : ℕ) → Tidy t s → n < count t → WithNamesFrom src t n
    unfolding offered_in enclosing_roots seen_of_all
    with-names-from s w h =
        record {
          more = seen_of_all src t n (enclosing_roots t n);
          own_first = refl;
          each = λ e i.
              ⊎_elim
              (λ g. inl (with-name-of t src n h e g))
              (λ g.
              let v = in_all (enclosing_roots t n) e g in
              inr (v.0, v.1, seen-from v.0 e h (root-around n s w h v.0 v.1) v.2))
              (mathlib.Core.List.Memᴰ.append_cases (with_names src t n) i);
          own_alone = λ k. rw (k, append-nil (with_names src t n));
        }
