-- The loop that climbs to the roots around a root and writes what is seen of each.
--     Climbing, climb-start, -query, -other, -none, -last    the roots around
--     own-written, offered-alone, offered-around                    with the root's own before them
-- Assumes nothing.
use Prim.Native.Nat.{ℕ, ◌<◌}
use mathlib.Core.Path.{◌≡◌, refl, sym, ap, ◌∙◌}
use mathlib.Core.Bool.{Bool, true, false, cond}
use mathlib.Core.List.{List, [], ◌∷◌, ◌++◌, append_assoc, append-nil}
use native.Mathlib.Omega.{arith}
use borrow.Author.Tests.{eq-eqb, ne_eqb}
use Rattle.std.specs.Prelude.{Some, None}
use Rattle.records.specs.Kinds.{subquery_expression}
use Rattle.records.specs.Table.{count, kind_at, parent_at, part}
use Rattle.forest.specs.Forest.{stretch_end}
use Rattle.lent.specs.Lists.{Written}
use Rattle.lent.proofs.Writes.{written_none, written_then, written-rows}
use Rattle.names.specs.declared.names.NameBinding.{NameBinding}
use Rattle.names.specs.Bindings.{binding_row}
use Rattle.tables.specs.inner.Rows.{as_row}
use Rattle.clauses.specs.declared.clauses.ScopeList.TheVariants.{WithNames}
use Rattle.collection.specs.Collection.{collection_of}
use Rattle.lists.specs.Scope.{with_names}
use Rattle.collection.specs.inner.Rows.{own_rows}
use Rattle.lists.proofs.ListLaws.{with_rows}
use Rattle.statement.specs.Statement.{is_statement}
use Rattle.forest.specs.Above.{above_among, above}
use Rattle.forest.specs.inner.Climbing.{Climbs}
use Rattle.enclosing.specs.Enclosing.{roots_among, enclosing_roots}
use Rattle.seen.specs.Seen.{seen_of}
use Rattle.enclosing.specs.Offered.{seen_of_all, offered_in}
use Rattle.enclosing.specs.declared.enclosing.Outer.{Outer}
use Rattle.enclosing.specs.declared.enclosing.Outer.TheVariants.{Nothing, First, Statement}
use Rattle.enclosing.specs.inner.Climb.{outer_root, outer_number, last_outer, roots_from}
use Rattle.enclosing.proofs.Climbs.{roots-climb}

-- ---- what is known of the last enclosing root

pub outer-kept : {o : Outer} (s k x : ℕ) → o ≡ Statement s → o ≡ outer_root o k x
unfolding outer_root
outer-kept s k x e = rw e refl

module _ (o : Outer) (k x : ℕ) (h : (s : ℕ) → o ≡ Statement s → ⊥) where
  outer-sought : outer_root o k x ≡ cond (is_statement k) (Statement x) First
  unfolding outer_root
  outer-sought = go o h
    where
      go : (p : Outer) → ((s : ℕ) → p ≡ Statement s → ⊥) → outer_root p k x ≡ cond (is_statement k) (Statement x) First
      go Nothing q = refl
      go First q = refl
      go (Statement s) q = absurd (q s refl)

  pub outer-statement : {b : Bool} → b ≡ is_statement k → b ≡ true → Statement x ≡ outer_root o k x
  outer-statement e y = sym (outer-sought ∙ rw (← e, y))

  pub outer-first : {b : Bool} → b ≡ is_statement k → b ≡ false → First ≡ outer_root o k x
  outer-first e y = sym (outer-sought ∙ rw (← e, y))

-- the record that it stands for is one of c
unfoldable pub OuterBelow : ℕ → Outer → Type 0
OuterBelow c (Statement s) = s < c
OuterBelow c _ = Unit

pub outer_nothing : (c : ℕ) → OuterBelow c Nothing
unfolding OuterBelow
outer_nothing c = tt

sought-below : (b : Bool) (x c : ℕ) → x < c → OuterBelow c (cond b (Statement x) First)
unfolding OuterBelow
sought-below true x c h = h
sought-below false x c h = tt

pub outer-below : (o : Outer) (k x c : ℕ) → OuterBelow c o → x < c → OuterBelow c (outer_root o k x)
unfolding outer_root
outer-below (Statement s) k x c a b = a
outer-below Nothing k x c a b = sought-below (is_statement k) x c b
outer-below First k x c a b = sought-below (is_statement k) x c b

pub outer-within : (o : Outer) (c : ℕ) {r : ℕ} → OuterBelow c o → 0 < c → Some r ≡ outer_number o → r < c
unfolding outer_number OuterBelow
outer-within Nothing c {r = r} a b e = absurd (cc)
outer-within First c {r = r} a b e = let z : r ≡ 0 = cc in omega arith
outer-within (Statement s) c {r = r} a b e = let z : r ≡ s = cc in omega (arith, a)

-- ---- the loop

module _ (src t : List ℕ) (n : ℕ) where
  -- all that is to be written
  abbrev pub around_all : List NameBinding
  around_all = seen_of_all src t n (roots_among t (above t n))

  -- at record i, with what was written so far
  pub record Climbing (out₀ : List ℕ) (at : ℕ) (outer : Outer) (i : ℕ) (out : List ℕ) (next : ℕ) : Type 0 where
    pub sofar : List NameBinding
    pub written : Written binding_row sofar out₀ at out next
    pub left : sofar ++ seen_of_all src t n (roots_from t outer (above t i)) ≡ around_all

  pub climb-start : (out : List ℕ) (at : ℕ) → Climbing out at Nothing n out at
  climb-start out at =
      record { sofar = []; written = written_none binding_row out at; left = ap (seen_of_all src t n) (roots-climb t (above t n)) }

  module _ {out₀ : List ℕ} {at : ℕ} {outer : Outer} {i : ℕ} {out : List ℕ} {next : ℕ} (w : Climbing out₀ at outer i out next) where
    module _ {x : ℕ} (c : Climbs t) (s : 0 < i) (h : i < count t) (e : x ≡ parent_at t i) where
      up : above t i ≡ x ∷ above t x
      up = rw e (c.on i s h)

      pub climb-query : {out' : List ℕ} {next' : ℕ} → kind_at t x ≡ subquery_expression → Written binding_row (seen_of src t n x) out next out' next'
          → Climbing out₀ at Nothing x out' next'
      unfolding roots_from seen_of_all
      climb-query k v =
          record {
            sofar = w.sofar ++ seen_of src t n x;
            written = written_then binding_row w.written v;
            left =
                append_assoc w.sofar (seen_of src t n x) (seen_of_all src t n (roots_from t Nothing (above t x)))
                ∙ (rw (up, eq-eqb (kind_at t x) subquery_expression k) at w.left);
          }

      pub climb-other : {outer' : Outer} → (kind_at t x ≡ subquery_expression → ⊥) → outer' ≡ outer_root outer (kind_at t x) x → Climbing out₀ at outer' x out next
      unfolding roots_from
      climb-other k o =
          record { sofar = w.sofar; written = w.written; left = rw o (rw (up, ne_eqb (kind_at t x) subquery_expression k) at w.left) }

    module _ (z : i ≡ 0) where
      pub climb-none : None ≡ outer_number outer → Written binding_row around_all out₀ at out next
      unfolding above_among roots_from last_outer seen_of_all
      climb-none o = rw (← (rw (z, ← o, append-nil w.sofar) at w.left)) w.written

      pub climb-last : {r : ℕ} {out' : List ℕ} {next' : ℕ} → Some r ≡ outer_number outer → Written binding_row (seen_of src t n r) out next out' next'
          → Written binding_row around_all out₀ at out' next'
      unfolding above_among roots_from last_outer seen_of_all
      climb-last o v =
          let l = rw (z, ← o, append-nil (seen_of src t n _)) at w.left in
          rw (← l) (written_then binding_row w.written v)

  -- ---- the root's own, and then those

  pub own-written : {s out out' : List ℕ} {at at' : ℕ} → s ≡ part t n (stretch_end t n) → Written as_row (collection_of (own_rows WithNames src) n s) out at out' at'
      → Written binding_row (with_names src t n) out at out' at'
  own-written q w = written-rows binding_row (with_names src t n) (rw (q, with_rows src t n) at w)

  pub offered-alone : {out out' : List ℕ} {at at' : ℕ} → (kind_at t n ≡ subquery_expression → ⊥) → Written binding_row (with_names src t n) out at out' at'
      → Written binding_row (offered_in src t n) out at out' at'
  unfolding offered_in enclosing_roots seen_of_all
  offered-alone k w = rw (ne_eqb (kind_at t n) subquery_expression k, append-nil (with_names src t n)) w

  pub offered-around : {out mid out' : List ℕ} {at m at' : ℕ} → kind_at t n ≡ subquery_expression → Written binding_row (with_names src t n) out at mid m
      → Written binding_row around_all mid m out' at' → Written binding_row (offered_in src t n) out at out' at'
  unfolding offered_in enclosing_roots
  offered-around k w v = rw (eq-eqb (kind_at t n) subquery_expression k) (written_then binding_row w v)
