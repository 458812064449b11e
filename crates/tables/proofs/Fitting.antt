-- Every number of a reference fits 32 bits, where the tree that it is read in keeps document 01's limits, and every number of an alias where its nodes' spans
-- fit too; and a table reading lists no more than its tree has records.
--     read_fits, aliases-fit     the references of a table reading, and its aliases
--     read-few                   how many
-- Assumes nothing.
use Prim.Native.Nat.{ℕ, suc, ◌+◌, ◌≤◌, ◌<◌}
use mathlib.Core.Path.{◌≡◌, refl}
use mathlib.Core.Bool.{Bool, true, false, cond}
use mathlib.Core.List.{List, [], ◌∷◌, ◌++◌}
use native.Mathlib.Omega.{arith}
use lib.Dec.{eqb}
use lib.ListN.{length, length-append}
use Rattle.std.specs.Prelude.{Option, Some, None}
use Rattle.records.specs.declared.record.Rec.{Rec}
use Rattle.records.specs.Kinds.{join_clause, table_identifier, table_expression, table_alias}
use Rattle.conditions.specs.Conditions.{most_records}
use Rattle.lent.specs.Fit32.{Fit32, AllFit32}
use Rattle.lent.proofs.Fit32.{fit_append, fit-lists, fit-chosen}
use Rattle.forest.specs.Forest.{Forest, nil, token, node}
use Rattle.forest.specs.Limits.{AllWithinSource, Limited, size}
use Rattle.forest.proofs.Limits.{Inherited, limited-inherited, Fitting, fitting-inherited}
use Rattle.quotes.specs.declared.quotes.NameRanges.{NameRanges}
use Rattle.names.specs.declared.names.NameBinding.{NameBinding}
use Rattle.names.specs.Names.{is_part, is_name, direct, binding, bound_name, last_named, alias_in}
use Rattle.quotes.specs.Quotes.{name_of, absent_name}
use Rattle.names.specs.Bindings.{binding_row}
use Rattle.names.proofs.Fitting.{RangesFit, absent-fits, name-fits, direct-near, BoundFits, alias-fits}
use Rattle.references.specs.declared.pending.TableRef.{TableRef}
use Rattle.references.specs.References.{fresh, name_row, reference_row}
use Rattle.tables.specs.Tables.{Listing, aliased, hand_on, list_alias, table_reading, references, aliases}

-- ---- the pending reference

unfoldable PendingFits : Option TableRef → Type 0
PendingFits None = Unit
PendingFits (Some t) = Fit32 (reference_row t)

reference-fits : (x : ℕ) (d t a : NameRanges) → x < most_records → RangesFit d → RangesFit t → RangesFit a
    → Fit32 (reference_row (record { «record» = x; database = d; table = t; alias = a }))
unfolding Fit32
reference-fits x d t a h p q r = (omega arith, fit_append (name_row d) (name_row t ++ name_row a) p (fit_append (name_row t) (name_row a) q r))

fresh-fits : (src : List ℕ) (x : ℕ) (ts : List Rec) → x < most_records → AllWithinSource ts → PendingFits (fresh src x ts)
unfolding fresh PendingFits AllWithinSource
fresh-fits src x [] h w = tt
fresh-fits src x (t ∷ []) h w = reference-fits x absent_name (name_of src t) absent_name h absent-fits (name-fits src t w.0) absent-fits
fresh-fits src x (d ∷ t ∷ []) h w = reference-fits x (name_of src d) (name_of src t) absent_name h (name-fits src d w.0) (name-fits src t w.1.0) absent-fits
fresh-fits src x (d ∷ t ∷ u ∷ more) h w = tt

-- the alias that is set
unfoldable AliasFits : Option NameBinding → Type 0
AliasFits None = Unit
AliasFits (Some b) = RangesFit (bound_name b)

last_fits : (src : List ℕ) (r : Rec) (b : Option NameBinding) (ts : List Rec) → AliasFits b → AllWithinSource ts → AliasFits (last_named src r b ts)
unfolding last_named AllWithinSource
last_fits src r b [] h w = h
last_fits src r b (t ∷ more) h w = last_fits src r (Some (binding src r t)) more (unfold AliasFits binding in name-fits src t w.0) w.1

set-fits : (src : List ℕ) (r : Rec) (f : Forest) → Limited f → AliasFits (alias_in src r f)
set-fits src r f w = last_fits src r None (direct (is_name src) f) (unfold AliasFits in tt) (direct-near (is_name src) f w)

-- the twelve numbers that stay, with the alias
replaced : (t : TableRef) (a : NameRanges) → Fit32 (reference_row t) → RangesFit a
    → Fit32 (reference_row (record { «record» = t.«record»; database = t.database; table = t.table; alias = a }))
unfolding Fit32
replaced t a (x, (d, (e, (f, (g, (i, (j, (k, (l, old))))))))) w = (x, (d, (e, (f, (g, (i, (j, (k, (l, w)))))))))

aliased-fits : (p : Option TableRef) (b : Option NameBinding) → PendingFits p → AliasFits b → PendingFits (aliased p b)
unfolding aliased PendingFits AliasFits
aliased-fits None b h w = tt
aliased-fits (Some t) None h w = h
aliased-fits (Some t) (Some b) h w = replaced t (bound_name b) h w

-- ---- the reading, of what is handed on and of aliases that are set

module _ {E : Type 0} (row : E → List ℕ) (L : Listing E) (src : List ℕ) {P : Forest → Type 0} (parts : Inherited P)
    (limited : (r : Rec) (below rest : Forest) → P (node r below rest) → (r.index < most_records) × Limited below)
    (hand : (p : Option TableRef) → PendingFits p → AllFit32 row (hand_on L p))
    (alias : (p : Option TableRef) (r : Rec) (below rest : Forest) → P (node r below rest) → AllFit32 row (list_alias L p (alias_in src r below))) where
  reading-fits : (p : Option TableRef) (f : Forest) → PendingFits p → P f → AllFit32 row (table_reading L src p f)
  unfolding table_reading
  reading-fits p nil h w = hand p h
  reading-fits p (token r rest) h w = reading-fits p rest h (parts.behind-token w)
  reading-fits p (node r below rest) h w =
      let v = parts.behind-node w in
      let known = limited r below rest w in
      let inner = reading-fits None below (unfold PendingFits in tt) (parts.below w) in
      fit-chosen row (eqb r.kind table_identifier) _ _
      (fit-lists row (hand_on L p) _ (hand p h)
      (reading-fits (fresh src r.index (direct is_part below)) rest
      (fresh-fits src r.index (direct is_part below) known.0 (direct-near is_part below known.1)) v))
      (fit-chosen row (eqb r.kind table_alias) _ _
      (fit-lists row (list_alias L p (alias_in src r below)) _ (alias p r below rest w)
      (reading-fits (aliased p (alias_in src r below)) rest (aliased-fits p (alias_in src r below) h (set-fits src r below known.1)) v))
      (fit-chosen row (eqb r.kind table_expression) _ _
      (fit-lists row (table_reading L src None below) _ inner (reading-fits p rest h v))
      (fit-chosen row (eqb r.kind join_clause) _ _
      (fit-lists row (hand_on L p) _ (hand p h)
      (fit-lists row (table_reading L src None below) _ inner (reading-fits None rest (unfold PendingFits in tt) v)))
      (reading-fits p rest h v))))

hand-fits : (p : Option TableRef) → PendingFits p → AllFit32 reference_row (hand_on references p)
unfolding hand_on PendingFits AllFit32
hand-fits None h = tt
hand-fits (Some t) h = (h, tt)

no-alias : (p : Option TableRef) (b : Option NameBinding) → AllFit32 reference_row (list_alias references p b)
unfolding list_alias AllFit32
no-alias None b = tt
no-alias (Some t) None = tt
no-alias (Some t) (Some b) = tt

pub read_fits : (src : List ℕ) (f : Forest) → Limited f → AllFit32 reference_row (table_reading references src None f)
unfolding Limited
read_fits src f w = reading-fits reference_row references src limited-inherited (λ r below rest v. (v.0, v.1)) hand-fits (λ p r below rest v. no-alias p (alias_in src r below)) None f (unfold PendingFits in tt) w

no-reference : (p : Option TableRef) → AllFit32 binding_row (hand_on aliases p)
unfolding hand_on AllFit32
no-reference None = tt
no-reference (Some t) = tt

listed-fits : (p : Option TableRef) (b : Option NameBinding) → BoundFits b → AllFit32 binding_row (list_alias aliases p b)
unfolding list_alias BoundFits AllFit32
listed-fits None b h = tt
listed-fits (Some t) None h = tt
listed-fits (Some t) (Some b) h = (h, tt)

pub aliases-fit : (src : List ℕ) (f : Forest) → Fitting f → AllFit32 binding_row (table_reading aliases src None f)
unfolding Limited
aliases-fit src f w =
    reading-fits binding_row aliases src fitting-inherited (λ r below rest v. (v.0.0, v.0.1)) (λ p h. no-reference p)
    (λ p r below rest v. listed-fits p (alias_in src r below) (alias-fits src r below rest v)) None f (unfold PendingFits in tt) w

-- ---- how many

-- a pending reference is one that may still be listed
unfoldable waiting : Option TableRef → ℕ
waiting None = 0
waiting (Some t) = 1

module _ {E : Type 0} (L : Listing E) (src : List ℕ) (one-reference : (t : TableRef) → length (L.reference t) ≤ 1) (one-alias : (b : NameBinding) → length (L.alias b) ≤ 1) where
  hand-few : (p : Option TableRef) → length (hand_on L p) ≤ waiting p
  unfolding hand_on waiting
  hand-few None = omega arith
  hand-few (Some t) = one-reference t

  alias-few : (p : Option TableRef) (b : Option NameBinding) → length (list_alias L p b) ≤ 1
  unfolding list_alias
  alias-few None b = omega arith
  alias-few (Some t) None = omega arith
  alias-few (Some t) (Some b) = one-alias b

  aliased-waits : (p : Option TableRef) (b : Option NameBinding) → waiting (aliased p b) ≤ waiting p
  unfolding aliased waiting
  aliased-waits None b = omega arith
  aliased-waits (Some t) None = omega arith
  aliased-waits (Some t) (Some b) = omega arith

  waits_one : (p : Option TableRef) → waiting p ≤ 1
  unfolding waiting
  waits_one None = omega arith
  waits_one (Some t) = omega arith

  none : waiting None ≡ 0
  unfolding waiting
  none = refl

  reading-few : (p : Option TableRef) (f : Forest) → length (table_reading L src p f) ≤ waiting p + size f
  unfolding table_reading size
  reading-few p nil = omega (arith, hand-few p)
  reading-few p (token r rest) = omega (arith, reading-few p rest)
  reading-few p (node r below rest) =
      go (eqb r.kind table_identifier) (eqb r.kind table_alias) (eqb r.kind table_expression) (eqb r.kind join_clause) (reading-few None below) (λ q. reading-few q rest)
    where
      named : Option TableRef
      named = fresh src r.index (direct is_part below)

      bound : Option NameBinding
      bound = alias_in src r below

      read : Option TableRef → Forest → List E
      read = table_reading L src

      go : (a b c d : Bool) → length (read None below) ≤ waiting None + size below → ((q : Option TableRef) → length (read q rest) ≤ waiting q + size rest)
          → length (cond a (hand_on L p ++ read named rest) (cond b (list_alias L p bound ++ read (aliased p bound) rest)
          (cond c (read None below ++ read p rest) (cond d (hand_on L p ++ (read None below ++ read None rest)) (read p rest)))))
          ≤ waiting p + suc (size below + size rest)
      go true b c d inner on = omega (arith, length-append (hand_on L p) (read named rest), hand-few p, on named, waits_one named)
      go false true c d inner on = omega (arith, length-append (list_alias L p bound) (read (aliased p bound) rest), alias-few p bound, on (aliased p bound), aliased-waits p bound)
      go false false true d inner on = omega (arith, length-append (read None below) (read p rest), inner, on p, none)
      go false false false true inner on =
          omega (arith, length-append (hand_on L p) (read None below ++ read None rest), length-append (read None below) (read None rest), hand-few p, inner, on None, none)
      go false false false false inner on = omega (arith, on p)

  pub read-few : (f : Forest) → length (table_reading L src None f) ≤ size f
  read-few f = omega (arith, reading-few None f, none)
