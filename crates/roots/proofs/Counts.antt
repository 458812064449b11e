-- What the roots' lists hold, as one sum: for any weight of a root and a name.
-- Assumes nothing.
use mathlib.Core.Path.{◌≡◌, refl}
use mathlib.Core.List.{List, [], ◌∷◌, ◌++◌}
use mathlib.Core.Bool.{Bool, true, false, cond, ◌&&◌, not}
use Prim.Native.Nat.{ℕ, ◌+◌, ◌*◌}
use native.Mathlib.Omega.{arith}
use native.Mathlib.Nat.{mul-add, add-mul}
use borrow.Author.Tests.{eqb-true, eq-eqb, ne_eqb}
use lib.Dec.{eqb}
use Rattle.names.specs.declared.names.NameBinding.{NameBinding}
use Rattle.std.specs.Prelude.{Option, Some, None}
use Rattle.records.specs.declared.record.Rec.{Rec}
use Rattle.forest.specs.Forest.{Forest, nil, token, node}
use Rattle.forest.specs.Places.{Place, places, sum}
use Rattle.forest.proofs.Places.{sum-append}
use Rattle.references.specs.declared.pending.TableRef.{TableRef}
use Rattle.names.specs.Names.{is_part, direct, alias_in}
use Rattle.collection.specs.Collection.{node_gives, collected, collection, own_tables}
use Rattle.references.specs.References.{fresh}
use Rattle.tables.specs.Tables.{aliased, hand_on, list_alias, table_reading, references}
use Rattle.roots.specs.Reach.{is_top, is_root, one_or_two, has_one_or_two, is_table_name, refs, up_to_root, every, from_or_join, passes, no_with, reach, reaching}

-- ---- the kinds that matter

pub data Sort (k : ℕ) : Type 0 where
  is_with : k ≡ 14 → Sort k
  is_from : k ≡ 16 → Sort k
  is_join : k ≡ 17 → Sort k
  is_sub : k ≡ 30 → Sort k
  is_table : k ≡ 33 → Sort k
  is_nest : k ≡ 34 → Sort k
  is_alias : k ≡ 35 → Sort k
  is_other : eqb k 14 ≡ false → eqb k 16 ≡ false → eqb k 17 ≡ false → eqb k 30 ≡ false → eqb k 33 ≡ false → eqb k 34 ≡ false → eqb k 35 ≡ false → Sort k

pub decide : {A : Type 0} (k n : ℕ) → (k ≡ n → A) → (eqb k n ≡ false → A) → A
decide {A} k n yea nay = go (eqb k n) refl
  where
    go : (t : Bool) → eqb k n ≡ t → A
    go true e = yea (eqb-true k n e)
    go false e = nay e

pub sort : (k : ℕ) → Sort k
sort k =
    decide k 14 is_with λ a. decide k 16 is_from λ b. decide k 17 is_join λ c. decide k 30 is_sub λ d.
    decide k 33 is_table λ e. decide k 34 is_nest λ f. decide k 35 is_alias λ g. is_other a b c d e f g

-- ---- a table reading hands on what was pending, and each name that it reaches once

unfoldable pub reached : (ℕ → ℕ) → Forest → ℕ
reached w nil = 0
reached w (token r rest) = reached w rest
reached w (node r below rest) =
    cond (eqb r.kind 33 && has_one_or_two below) (w r.index) 0 + cond (passes r.kind) (reached w below) 0 + reached w rest

module _ (w : ℕ → ℕ) where
  abbrev pub weight : List TableRef → ℕ
  weight = sum (λ (e : TableRef). w e.«record»)

  weight-fresh : (src : List ℕ) (x : ℕ) (parts : List Rec) → weight (hand_on references (fresh src x parts)) ≡ cond (one_or_two parts) (w x) 0
  unfolding fresh hand_on sum one_or_two
  weight-fresh src x [] = refl
  weight-fresh src x (t ∷ []) = omega arith
  weight-fresh src x (d ∷ t ∷ []) = omega arith
  weight-fresh src x (d ∷ t ∷ u ∷ more) = refl

  weight-aliased : (p : Option TableRef) (b : Option NameBinding) → weight (hand_on references (aliased p b)) ≡ weight (hand_on references p)
  unfolding aliased hand_on sum
  weight-aliased None b = refl
  weight-aliased (Some t) None = refl
  weight-aliased (Some t) (Some b) = refl

  weight-listed : (p : Option TableRef) (b : Option NameBinding) → weight (list_alias references p b) ≡ 0
  unfolding list_alias sum
  weight-listed None b = refl
  weight-listed (Some t) None = refl
  weight-listed (Some t) (Some b) = refl

  weight-idle : weight (hand_on references None) ≡ 0
  unfolding hand_on sum
  weight-idle = refl

  abbrev add : (xs ys : List TableRef) → weight (xs ++ ys) ≡ weight xs + weight ys
  add xs ys = sum-append (λ (x : TableRef). w x.«record») xs ys

  module _ (src : List ℕ) where
    abbrev read : Option TableRef → Forest → List TableRef
    read = table_reading references src

    read-node : (r : Rec) (below rest : Forest) (p : Option TableRef) → Sort r.kind
        → weight (read None below) ≡ weight (hand_on references None) + reached w below
        → ((q : Option TableRef) → weight (read q rest) ≡ weight (hand_on references q) + reached w rest)
        → weight (read p (node r below rest)) ≡ weight (hand_on references p) + reached w (node r below rest)
    unfolding table_reading reached
    read-node r below rest p (is_with e) ib ir = rw e (omega (arith, ir p))
    read-node r below rest p (is_from e) ib ir = rw e (omega (arith, ir p))
    read-node r below rest p (is_join e) ib ir =
        rw (e, add (hand_on references p) (read None below ++ read None rest), add (read None below) (read None rest)) (omega (arith, ib, ir None, weight-idle))
    read-node r below rest p (is_sub e) ib ir = rw e (omega (arith, ir p))
    read-node r below rest p (is_table e) ib ir =
        rw (e, add (hand_on references p) (read (fresh src r.index (direct is_part below)) rest))
        (omega (arith, ir (fresh src r.index (direct is_part below)), weight-fresh src r.index (direct is_part below)))
    read-node r below rest p (is_nest e) ib ir = rw (e, add (read None below) (read p rest)) (omega (arith, ib, ir p, weight-idle))
    read-node r below rest p (is_alias e) ib ir =
        rw (
          ne_eqb r.kind 33 (λ q. omega arith),
          eq-eqb r.kind 35 e,
          ne_eqb r.kind 34 (λ q. omega arith),
          ne_eqb r.kind 17 (λ q. omega arith),
          add (list_alias references p (alias_in src r below)) (read (aliased p (alias_in src r below)) rest),
        )
        (omega (arith, ir (aliased p (alias_in src r below)), weight-aliased p (alias_in src r below), weight-listed p (alias_in src r below)))
    read-node r below rest p (is_other a b c d e f g) ib ir = rw (e, g, f, c) (omega (arith, ir p))

    pub read-weight : (p : Option TableRef) (f : Forest) → weight (read p f) ≡ weight (hand_on references p) + reached w f
    unfolding table_reading reached
    read-weight p nil = omega arith
    read-weight p (token r rest) = read-weight p rest
    read-weight p (node r below rest) = read-node r below rest p (sort r.kind) (read-weight None below) (λ q. read-weight q rest)

-- ---- how often a node is reached, from the nearest node above on

abbrev pub clear : List Rec → Bool
clear above = every no_with (up_to_root above)

unfoldable pub hits : List Rec → ℕ
hits [] = 0
hits (a ∷ more) = cond (from_or_join a.kind && clear (a ∷ more)) 1 0 + cond (passes a.kind) (hits more) 0

shift : (f e c p : Bool) (n : ℕ) → cond (f && e && c) 1 0 + cond (p && e) n 0 ≡ cond e (cond (f && c) 1 0 + cond p n 0) 0
shift true true c true n = refl
shift true true c false n = refl
shift true false c true n = refl
shift true false c false n = refl
shift false true c true n = refl
shift false true c false n = refl
shift false false c true n = refl
shift false false c false n = refl

same_branch : (t : Bool) → ◌≡◌ {A = ℕ} 0 (cond t 0 0)
same_branch true = refl
same_branch false = refl

reaching-hits : (between above : List Rec) → reaching between above ≡ cond (every passes between) (hits above) 0
unfolding reaching hits reach
reaching-hits between [] = same_branch (every passes between)
reaching-hits between (a ∷ outer) =
    rw (reaching-hits (a ∷ between) outer) (unfold every in shift (from_or_join a.kind) (every passes between) (clear (a ∷ outer)) (passes a.kind) (hits outer))

pub reaches-hits : (above : List Rec) → reaching [] above ≡ hits above
unfolding every
reaches-hits above = reaching-hits [] above

-- ---- the nearest root's number

unfoldable pub nearest : List Rec → ℕ
nearest [] = 0
nearest (a ∷ []) = a.index
nearest (a ∷ (b ∷ more)) = cond (eqb a.kind 30) a.index (nearest (b ∷ more))

-- ---- from a node to its children

module _ (r b : Rec) (more : List Rec) where
  near_sub : r.kind ≡ 30 → nearest (r ∷ b ∷ more) ≡ r.index
  unfolding nearest
  near_sub e = rw e

  near_on : eqb r.kind 30 ≡ false → nearest (r ∷ b ∷ more) ≡ nearest (b ∷ more)
  unfolding nearest
  near_on e = rw e

clear-sub : (r : Rec) (above : List Rec) → r.kind ≡ 30 → clear (r ∷ above) ≡ true
unfolding up_to_root every
clear-sub r above e = rw e

clear-on : (r : Rec) (above : List Rec) → eqb r.kind 30 ≡ false → clear (r ∷ above) ≡ (no_with r.kind && clear above)
unfolding up_to_root every
clear-on r above e = rw e

hits-sub : (r : Rec) (above : List Rec) → r.kind ≡ 30 → hits (r ∷ above) ≡ 0
unfolding hits
hits-sub r above e = rw e

hits-on : (r : Rec) (above : List Rec) (c : Bool) → eqb r.kind 30 ≡ false → clear above ≡ c
    → hits (r ∷ above) ≡ cond (from_or_join r.kind && (no_with r.kind && c)) 1 0 + cond (passes r.kind) (hits above) 0
unfolding hits
hits-on r above c e q = rw (clear-on r above e, q)

top-clear : (r : Rec) → clear (r ∷ []) ≡ (no_with r.kind && true)
unfolding up_to_root every
top-clear r = decide r.kind 30 (λ e. rw e) (λ e. rw e)

-- ---- what a node adds to each side

reached-sub : (w : ℕ → ℕ) (r : Rec) (below rest : Forest) → r.kind ≡ 30 → reached w (node r below rest) ≡ reached w rest
unfolding reached
reached-sub w r below rest e = rw e (omega arith)

module _ (src : List ℕ) where
  -- the references that a node of kind k gives as its own part, and those of siblings
  abbrev pub own : ℕ → Forest → List TableRef
  own = own_tables references src

  abbrev pub gives : Forest → List TableRef
  gives = collected own

  collected-sub : (r : Rec) (below rest : Forest) → r.kind ≡ 30 → gives (node r below rest) ≡ gives rest
  unfolding collected
  collected-sub r below rest e = rw e

  weight-entered : (w : ℕ → ℕ) (k : ℕ) (below : Forest) (inner : List TableRef)
      → weight w (node_gives own k below inner) ≡ cond (eqb k 14) 0 (cond (from_or_join k) (reached w below) 0 + weight w inner)
  unfolding node_gives own_tables sum
  weight-entered w k below inner = decide k 14 (λ e. rw e) (λ e. rw e (go (from_or_join k)))
    where
      go : (f : Bool) → weight w (cond f (table_reading references src None below) [] ++ inner) ≡ cond f (reached w below) 0 + weight w inner
      go true =
          rw (sum-append (λ (x : TableRef). w x.«record») (table_reading references src None below) inner)
          (omega (arith, read-weight w src None below, weight-idle w))
      go false = omega arith

  collected-on : (w : ℕ → ℕ) (r : Rec) (below rest : Forest) → eqb r.kind 30 ≡ false
      → weight w (gives (node r below rest))
      ≡ cond (eqb r.kind 14) 0 (cond (from_or_join r.kind) (reached w below) 0 + weight w (gives below)) + weight w (gives rest)
  unfolding collected
  collected-on w r below rest e =
      rw e (rw (sum-append (λ (x : TableRef). w x.«record») (node_gives own r.kind below (gives below)) (gives rest), weight-entered w r.kind below (gives below)))

-- the two sides at a node, as numbers: t WITH, f FROM or JOIN, p passes, m a name; c nothing bars the way above
level_out : (t f p m c : Bool) (h w rb cb rr cr : ℕ)
    → cond m (h * w) 0 + (cond (not t && c) cb 0 + (cond (f && (not t && c)) 1 0 + cond p h 0) * rb) + (cond c cr 0 + h * rr)
    ≡ cond c (cond t 0 (cond f rb 0 + cb) + cr) 0 + h * (cond m w 0 + cond p rb 0 + rr)
level_out t f p m c h w rb cb rr cr =
    omega (arith, name m, pass p, bare t f c, three, add-mul (cond (f && (not t && c)) 1 0) (cond p h 0) rb, out c)
  where
    name : (m : Bool) → cond m (h * w) 0 ≡ h * cond m w 0
    name true = refl
    name false = omega arith

    pass : (p : Bool) → cond p h 0 * rb ≡ h * cond p rb 0
    pass true = refl
    pass false = omega arith

    bare : (t f c : Bool) → cond (not t && c) cb 0 + cond (f && (not t && c)) 1 0 * rb ≡ cond c (cond t 0 (cond f rb 0 + cb)) 0
    bare true true c = omega (arith, same_branch c)
    bare true false c = omega (arith, same_branch c)
    bare false true true = omega arith
    bare false true false = omega arith
    bare false false true = omega arith
    bare false false false = omega arith

    three : h * (cond m w 0 + cond p rb 0 + rr) ≡ h * cond m w 0 + h * cond p rb 0 + h * rr
    three = rw (mul-add h (cond m w 0 + cond p rb 0) rr, mul-add h (cond m w 0) (cond p rb 0))

    out : (c : Bool) → cond c (cond t 0 (cond f rb 0 + cb) + cr) 0 ≡ cond c (cond t 0 (cond f rb 0 + cb)) 0 + cond c cr 0
    out true = refl
    out false = omega arith

-- ---- the sum, for any weight v of a root's number and a name's

module _ (src : List ℕ) (v : ℕ → ℕ → ℕ) where
  -- what a name is due
  abbrev pub due : Place → ℕ
  due p = cond (is_table_name p) (hits p.above * v (nearest p.above) p.self.index) 0

  -- what a root lists
  abbrev pub lists : Place → ℕ
  lists p = cond (is_root p) (weight (v p.self.index) (refs src p)) 0

  abbrev Balance : Rec → List Rec → Forest → Type 0
  Balance b more f =
      sum due (places (b ∷ more) f)
      ≡ cond (clear (b ∷ more)) (weight (v (nearest (b ∷ more))) (gives src f)) 0
      + hits (b ∷ more) * reached (v (nearest (b ∷ more))) f
      + sum lists (places (b ∷ more) f)

  sum-node : (g : Place → ℕ) (above : List Rec) (r : Rec) (below rest : Forest)
      → sum g (places above (node r below rest))
      ≡ g (record { self = r; below = below; above = above }) + (sum g (places (r ∷ above) below) + sum g (places above rest))
  unfolding sum places
  sum-node g above r below rest = rw (sum-append g (places (r ∷ above) below) (places above rest))

  sub-due : (r : Rec) (below : Forest) (above : List Rec) → r.kind ≡ 30 → due (record { self = r; below = below; above = above }) ≡ 0
  unfolding is_table_name
  sub-due r below above e = rw e

  sub-lists : (r : Rec) (below : Forest) (above : List Rec) → r.kind ≡ 30
      → lists (record { self = r; below = below; above = above }) ≡ weight (v r.index) (gives src below)
  unfolding is_root is_top collection node_gives own_tables
  sub-lists r below [] e = rw e
  sub-lists r below (a ∷ above) e = rw e

  on-lists : (r : Rec) (below : Forest) (a : Rec) (above : List Rec) → eqb r.kind 30 ≡ false
      → lists (record { self = r; below = below; above = a ∷ above }) ≡ 0
  unfolding is_root is_top
  on-lists r below a above e = rw e

  module _ (r b : Rec) (more : List Rec) (below rest : Forest) (ib : Balance r (b ∷ more) below) (ir : Balance b more rest) where
    step-sub : r.kind ≡ 30 → Balance b more (node r below rest)
    step-sub e =
        let n = near_sub r b more e in
        let ib' = rw (clear-sub r (b ∷ more) e, hits-sub r (b ∷ more) e, n) at ib in
        rw (collected-sub src r below rest e, reached-sub (v (nearest (b ∷ more))) r below rest e)
        (omega (arith, ib', ir, sum-node due (b ∷ more) r below rest, sum-node lists (b ∷ more) r below rest, sub-due r below (b ∷ more) e, sub-lists r below (b ∷ more) e))

    step-on : eqb r.kind 30 ≡ false → Balance b more (node r below rest)
    unfolding is_table_name reached
    step-on e =
        let ib' = rw (hits-on r (b ∷ more) (clear (b ∷ more)) e refl, clear-on r (b ∷ more) e, near_on r b more e) at ib in
        rw (collected-on src (v (nearest (b ∷ more))) r below rest e)
        (omega (
          arith,
          ib',
          ir,
          sum-node due (b ∷ more) r below rest,
          sum-node lists (b ∷ more) r below rest,
          on-lists r below b more e,
          level_out (eqb r.kind 14) (from_or_join r.kind) (passes r.kind) (eqb r.kind 33 && has_one_or_two below) (clear (b ∷ more))
              (hits (b ∷ more)) (v (nearest (b ∷ more)) r.index) (reached (v (nearest (b ∷ more))) below) (weight (v (nearest (b ∷ more))) (gives src below))
              (reached (v (nearest (b ∷ more))) rest) (weight (v (nearest (b ∷ more))) (gives src rest)),
        ))

  balance : (b : Rec) (more : List Rec) (f : Forest) → Balance b more f
  unfolding collected reached places sum
  balance b more nil = omega (arith, same_branch (clear (b ∷ more)))
  balance b more (token r rest) = balance b more rest
  balance b more (node r below rest) =
      decide r.kind 30 (step-sub r b more below rest (balance r (b ∷ more) below) (balance b more rest))
      (step-on r b more below rest (balance r (b ∷ more) below) (balance b more rest))

  top-due : (r : Rec) (below : Forest) → due (record { self = r; below = below; above = [] }) ≡ 0
  unfolding hits
  top-due r below = go (is_table_name (record { self = r; below = below; above = [] }))
    where
      go : (t : Bool) → cond t (0 * v (nearest []) r.index) 0 ≡ 0
      go true = omega arith
      go false = refl

  top-lists : (r : Rec) (below : Forest)
      → lists (record { self = r; below = below; above = [] })
      ≡ cond (eqb r.kind 14) 0 (cond (from_or_join r.kind) (reached (v r.index) below) 0 + weight (v r.index) (gives src below))
  unfolding is_root is_top collection
  top-lists r below = weight-entered src (v r.index) r.kind below (gives src below)

  -- all that the roots list is what the names are due
  pub balanced : (r : Rec) (below : Forest) → sum lists (places [] (node r below nil)) ≡ sum due (places [] (node r below nil))
  unfolding hits nearest sum places
  balanced r below =
      let ib = rw (top-clear r) at (balance r [] below) in
      omega (
        arith,
        ib,
        sum-node due [] r below nil,
        sum-node lists [] r below nil,
        top-due r below,
        top-lists r below,
        level_out (eqb r.kind 14) (from_or_join r.kind) (passes r.kind) false true 0 0 (reached (v r.index) below) (weight (v r.index) (gives src below)) 0 0,
      )
