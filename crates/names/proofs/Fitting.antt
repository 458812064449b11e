-- Every number of a name and of a binding fits 32 bits, where the tree that it is read in keeps document 01's limits and its nodes' spans fit; and a clause
-- binds no more names than it has records.
--     name-fits, direct-near      a name; the tokens that names are read of
--     bound-fits, items-fit, selected-fit     what is bound
--     bound-few                   how many
-- Assumes nothing.
use Prim.Native.Nat.{ℕ, suc, ◌+◌, ◌-◌, ◌≤◌, ◌<◌}
use mathlib.Core.Bool.{Bool, true, false, cond, ◌&&◌, ◌||◌}
use mathlib.Core.List.{List, [], ◌∷◌, ◌++◌}
use native.Mathlib.Omega.{arith}
use lib.Dec.{leb, eqb}
use lib.ListN.{length, length-append}
use Rattle.names.specs.declared.names.NameBinding.{NameBinding}
use Rattle.std.specs.Prelude.{Option, Some, None}
use Rattle.records.specs.declared.record.Rec.{Rec}
use Rattle.records.specs.declared.range.Range.{Range}
use Rattle.records.specs.Kinds.{quoted_identifier, with_expression_item, column_list, expression_list, column_alias}
use Rattle.records.specs.Ranges.{span}
use Rattle.lent.specs.Fit32.{Fit32, AllFit32}
use Rattle.lent.proofs.Fit32.{fit-lists, fit-chosen}
use Rattle.forest.specs.Forest.{Forest, nil, token, node}
use Rattle.forest.specs.Limits.{WithinSource, AllWithinSource, Limited, SpansFit, size}
use Rattle.forest.proofs.Limits.{Fitting, near-chosen}
use Rattle.quotes.specs.declared.quotes.NameRanges.{NameRanges}
use Rattle.names.specs.Names.{is_name, direct, binding, first_named, last_named, with_item, alias_in}
use Rattle.quotes.specs.Quotes.{byte_at, is_mark, unquoted, name_of, absent_name}
use Rattle.names.specs.Bindings.{entry, bound_in, with_items, select_aliases, binding_row}

-- ---- names

-- its two ranges
abbrev pub RangesFit : NameRanges → Type 0
RangesFit n = Fit32 (n.outer.start ∷ n.outer.end ∷ n.inner.start ∷ n.inner.end ∷ [])

pub absent-fits : RangesFit absent_name
unfolding Fit32
absent-fits = (omega arith, (omega arith, (omega arith, (omega arith, tt))))

-- a name with and without its quotes
ranges-fit : (b : Bool) (t : Rec) (x : Range) → WithinSource t → (x.start < 4294967296) × (x.end < 4294967296)
    → RangesFit (record { outer = span t; inner = cond b x (span t) })
unfolding Fit32
ranges-fit true t x h q = (omega arith, (omega arith, (q.0, (q.1, tt))))
ranges-fit false t x h q = (omega arith, (omega arith, (omega arith, (omega arith, tt))))

within-fits : (src : List ℕ) (s e : ℕ) → s < 4294967295 → e < 4294967296 → ((unquoted src s e).start < 4294967296) × ((unquoted src s e).end < 4294967296)
unfolding unquoted
within-fits src s e h g = go (leb 2 (e - s) && (is_mark (byte_at src s) && eqb (byte_at src (e - 1)) (byte_at src s)))
  where
    go : (b : Bool) → ((cond {A = Range} b (record { start = s + 1; end = e - 1 }) (record { start = s; end = e })).start < 4294967296)
        × ((cond {A = Range} b (record { start = s + 1; end = e - 1 }) (record { start = s; end = e })).end < 4294967296)
    go true = (omega arith, omega arith)
    go false = (omega arith, omega arith)

pub name-fits : (src : List ℕ) (t : Rec) → WithinSource t → RangesFit (name_of src t)
unfolding name_of
name-fits src t h = ranges-fit (eqb t.kind quoted_identifier) t (unquoted src t.start t.end) h (within-fits src t.start t.end (omega arith) (omega arith))

-- ---- the name tokens of a node

pub direct-near : (test : Rec → Bool) (f : Forest) → Limited f → AllWithinSource (direct test f)
unfolding direct Limited AllWithinSource
direct-near test nil w = tt
direct-near test (token t rest) w = near-chosen (test t) t (direct test rest) w.0.1 (direct-near test rest w.1)
direct-near test (node r below rest) w = direct-near test rest w.2

-- ---- what a node binds

abbrev SpanFits : Rec → Type 0
SpanFits r = (r.start < 4294967296) × (r.end < 4294967296)

unfoldable pub BoundFits : Option NameBinding → Type 0
BoundFits None = Unit
BoundFits (Some b) = Fit32 (binding_row b)

binding-fits : (src : List ℕ) (r t : Rec) → SpanFits r → WithinSource t → BoundFits (Some (binding src r t))
unfolding BoundFits binding Fit32
binding-fits src r t s h = let n = name-fits src t h in (n.0, (n.1.0, (n.1.1.0, (n.1.1.1.0, (s.0, (s.1, tt))))))

first_fits : (src : List ℕ) (r : Rec) (ts : List Rec) → SpanFits r → AllWithinSource ts → BoundFits (first_named src r ts)
unfolding first_named AllWithinSource
first_fits src r [] s w = (unfold BoundFits in tt)
first_fits src r (t ∷ more) s w = binding-fits src r t s w.0

last_fits : (src : List ℕ) (r : Rec) (b : Option NameBinding) (ts : List Rec) → SpanFits r → BoundFits b → AllWithinSource ts → BoundFits (last_named src r b ts)
unfolding last_named AllWithinSource
last_fits src r b [] s h w = h
last_fits src r b (t ∷ more) s h w = last_fits src r (Some (binding src r t)) more s (binding-fits src r t s w.0) w.1

-- a WITH item and an alias, among their siblings
module _ (src : List ℕ) (r : Rec) (below rest : Forest) (w : Fitting (node r below rest)) where
  pub item-fits : BoundFits (with_item src r below)
  unfolding Limited SpansFit
  item-fits = first_fits src r (direct (is_name src) below) w.1.0 (direct-near (is_name src) below w.0.1)

  pub alias-fits : BoundFits (alias_in src r below)
  unfolding Limited SpansFit
  alias-fits = last_fits src r None (direct (is_name src) below) w.1.0 (unfold BoundFits in tt) (direct-near (is_name src) below w.0.1)

-- ---- what a clause binds

pub entry-fits : (b : Option NameBinding) → BoundFits b → AllFit32 binding_row (entry b)
unfolding BoundFits entry AllFit32
entry-fits None h = tt
entry-fits (Some b) h = (h, tt)

pub entry-one : (b : Option NameBinding) → length (entry b) ≤ 1
unfolding entry
entry-one None = omega arith
entry-one (Some b) = omega arith

module _ (kind : ℕ) (is_list : ℕ → Bool) (bind : Rec → Forest → Option NameBinding) where
  pub bound-fits : ((r : Rec) (below rest : Forest) → Fitting (node r below rest) → BoundFits (bind r below)) → (f : Forest) → Fitting f → AllFit32 binding_row (bound_in kind is_list bind f)
  unfolding bound_in Limited SpansFit
  bound-fits fits nil w = (unfold AllFit32 in tt)
  bound-fits fits (token r rest) w = bound-fits fits rest (w.0.1, w.1)
  bound-fits fits (node r below rest) w =
      fit-lists binding_row _ (bound_in kind is_list bind rest)
      (fit-chosen binding_row (eqb r.kind kind) (entry (bind r below)) _ (entry-fits (bind r below) (fits r below rest w))
      (fit-chosen binding_row (is_list r.kind) (bound_in kind is_list bind below) [] (bound-fits fits below (w.0.1, w.1.1)) (unfold AllFit32 in tt)))
      (bound-fits fits rest (w.0.2, w.1.2))

  pub bound-few : (f : Forest) → length (bound_in kind is_list bind f) ≤ size f
  unfolding bound_in size
  bound-few nil = omega arith
  bound-few (token r rest) = omega (arith, bound-few rest)
  bound-few (node r below rest) = go (eqb r.kind kind) (is_list r.kind) (bound-few below) (bound-few rest)
    where
      go : (b c : Bool) → length (bound_in kind is_list bind below) ≤ size below → length (bound_in kind is_list bind rest) ≤ size rest
          → length (cond b (entry (bind r below)) (cond c (bound_in kind is_list bind below) []) ++ bound_in kind is_list bind rest) ≤ suc (size below + size rest)
      go true c p q = omega (arith, length-append (entry (bind r below)) (bound_in kind is_list bind rest), entry-one (bind r below))
      go false true p q = omega (arith, length-append (bound_in kind is_list bind below) (bound_in kind is_list bind rest))
      go false false p q = omega arith

pub items-fit : (src : List ℕ) (f : Forest) → Fitting f → AllFit32 binding_row (with_items src f)
items-fit src = bound-fits with_expression_item (λ k. eqb k column_list) (with_item src) (item-fits src)

pub selected-fit : (src : List ℕ) (f : Forest) → Fitting f → AllFit32 binding_row (select_aliases src f)
selected-fit src = bound-fits column_alias (λ k. eqb k column_list || eqb k expression_list) (alias_in src) (alias-fits src)
