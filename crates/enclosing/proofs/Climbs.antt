-- The roots that a climb finds among what stands above a record are the enclosing roots.
--     roots-climb
-- Assumes nothing.
use Prim.Native.Nat.{ℕ}
use mathlib.Core.Path.{◌≡◌, refl, ap}
use mathlib.Core.Bool.{Bool, true, false, cond, ◌||◌}
use mathlib.Core.List.{List, [], ◌∷◌, ◌++◌}
use native.Mathlib.Omega.{arith}
use Rattle.records.specs.Table.{kind_at}
use Rattle.path.specs.Path.{is_subquery}
use Rattle.statement.specs.Statement.{is_statement}
use Rattle.enclosing.specs.Enclosing.{queries, some_query, beyond, statement_among, last_root, roots_among}
use Rattle.enclosing.specs.declared.enclosing.Outer.{Outer}
use Rattle.enclosing.specs.declared.enclosing.Outer.TheVariants.{Nothing, First, Statement}
use Rattle.enclosing.specs.inner.Climb.{outer_root, outer_number, last_outer, roots_from}

module _ (t : List ℕ) where
  -- without a subquery: a statement that is found stays, else it is looked for
  found-stays : (s : ℕ) (xs : List ℕ) → some_query t xs ≡ false → roots_from t (Statement s) xs ≡ s ∷ []
  unfolding roots_from last_outer outer_number some_query outer_root
  found-stays s [] e = refl
  found-stays s (x ∷ xs) e = go (is_subquery (kind_at t x)) e (found-stays s xs)
    where
      go : (b : Bool) → (b || some_query t xs) ≡ false → (some_query t xs ≡ false → roots_from t (Statement s) xs ≡ s ∷ [])
          → cond b (x ∷ roots_from t Nothing xs) (roots_from t (Statement s) xs) ≡ s ∷ []
      go true q i = absurd (let z : ◌≡◌ {A = ℕ} 0 1 = cc in omega arith)
      go false q i = i q

  looked-for : (xs : List ℕ) → some_query t xs ≡ false → roots_from t First xs ≡ statement_among t xs ∷ []
  unfolding roots_from last_outer outer_number some_query outer_root statement_among
  looked-for [] e = refl
  looked-for (x ∷ xs) e = go (is_subquery (kind_at t x)) (is_statement (kind_at t x)) e (looked-for xs)
    where
      go : (b s : Bool) → (b || some_query t xs) ≡ false → (some_query t xs ≡ false → roots_from t First xs ≡ statement_among t xs ∷ [])
          → cond b (x ∷ roots_from t Nothing xs) (roots_from t (cond s (Statement x) First) xs) ≡ cond s x (statement_among t xs) ∷ []
      go true s q i = absurd (let y : ◌≡◌ {A = ℕ} 0 1 = cc in omega arith)
      go false true q i = found-stays x xs q
      go false false q i = i q

  last_found : (xs : List ℕ) → some_query t xs ≡ false → roots_from t Nothing xs ≡ last_root t xs
  unfolding roots_from last_outer outer_number some_query outer_root last_root statement_among
  last_found [] e = refl
  last_found (x ∷ xs) e = go (is_subquery (kind_at t x)) (is_statement (kind_at t x)) e
    where
      go : (b s : Bool) → (b || some_query t xs) ≡ false
          → cond b (x ∷ roots_from t Nothing xs) (roots_from t (cond s (Statement x) First) xs) ≡ cond s x (statement_among t xs) ∷ []
      go true s q = absurd (let y : ◌≡◌ {A = ℕ} 0 1 = cc in omega arith)
      go false true q = found-stays x xs q
      go false false q = looked-for xs q

  no-queries : (xs : List ℕ) → some_query t xs ≡ false → (queries t xs ≡ []) × (beyond t xs ≡ xs)
  unfolding queries some_query beyond
  no-queries [] e = (refl, refl)
  no-queries (x ∷ xs) e = (go (is_subquery (kind_at t x)) e (no-queries xs), rw e)
    where
      go : (b : Bool) → (b || some_query t xs) ≡ false → (some_query t xs ≡ false → (queries t xs ≡ []) × (beyond t xs ≡ xs))
          → cond b (x ∷ queries t xs) (queries t xs) ≡ []
      go true q i = absurd (let y : ◌≡◌ {A = ℕ} 0 1 = cc in omega arith)
      go false q i = (i q).0

  -- whatever is known so far where a subquery is still to come
  some-query : (xs : List ℕ) (outer : Outer) → some_query t xs ≡ true → roots_from t outer xs ≡ queries t xs ++ last_root t (beyond t xs)
  unfolding roots_from queries some_query beyond
  some-query [] outer e = absurd (let y : ◌≡◌ {A = ℕ} 0 1 = cc in omega arith)
  some-query (x ∷ xs) outer e = rw e (step (is_subquery (kind_at t x)) (some_query t xs) refl e (some-query xs))
    where
      step : (b s : Bool) → some_query t xs ≡ s → (b || s) ≡ true
          → ((o : Outer) → some_query t xs ≡ true → roots_from t o xs ≡ queries t xs ++ last_root t (beyond t xs))
          → cond b (x ∷ roots_from t Nothing xs) (roots_from t (outer_root outer (kind_at t x) x) xs)
          ≡ cond b (x ∷ queries t xs) (queries t xs) ++ last_root t (beyond t xs)
      step true true q p i = ap (λ (l : List ℕ). x ∷ l) (i Nothing q)
      step true false q p i = let w = no-queries xs q in rw (last_found xs q, w.0, w.1)
      step false true q p i = i (outer_root outer (kind_at t x) x) q
      step false false q p i = absurd (let z : ◌≡◌ {A = ℕ} 0 1 = cc in omega arith)

  pub roots-climb : (xs : List ℕ) → roots_from t Nothing xs ≡ roots_among t xs
  unfolding roots_among
  roots-climb xs = go (some_query t xs) refl
    where
      go : (s : Bool) → some_query t xs ≡ s → roots_from t Nothing xs ≡ queries t xs ++ last_root t (beyond t xs)
      go true e = some-query xs Nothing e
      go false e = let w = no-queries xs e in rw (w.0, w.1) (last_found xs e)
