-- What is gathered on the way down: it names records of the table, and the rule of a node over another is that of the deepest, where it applies.
-- Assumes nothing.
use Prim.Native.Nat.{ℕ, ◌<◌}
use mathlib.Core.Path.{◌≡◌, refl}
use mathlib.Core.Bool.{Bool, true, false, cond}
use lib.Dec.{eqb}
use mathlib.Core.List.{List, [], ◌∷◌}
use Rattle.std.specs.Prelude.{Option, None, Some, IfSome}
use Rattle.records.specs.Table.{records}
use Rattle.forest.proofs.Descents.{Descent, answer}
use Rattle.records.specs.Ranges.{holds}
use Rattle.records.specs.Kinds.{file, query_list, error, insert_statement, select_clause, from_clause, join_clause, prewhere_clause, where_clause, group_by_clause, having_clause, order_by_clause, settings_clause, setting_list, engine_clause, format_clause, insert_format_clause, table_identifier, column_definition, column_type_definition, column_codec, data_type, data_type_parameters, function_call, aggregate_function, subquery_expression}
use Rattle.path.specs.Path.{path_at, one_of, trails, Deepest, Above, is_deepest, deepest_over}
use Rattle.path.specs.declared.gathered.Gathered.{Gathered}
use Rattle.path.specs.declared.rules.PathRule.{PathRule}
use Rattle.path.specs.declared.rules.PathRule.TheVariants.{From, Join, Insert, Settings, Engine, Format, DataType, Definition, Codec, Function, Column, Start}
use Rattle.path.specs.inner.Rules.{rule_of, applies_over}
use Rattle.path.specs.inner.Gathered.{ruling_of, settled_by, settled, stepped, nothing, gathered, Within}

-- of two records that there may be, each among n
either : (n : ℕ) (a b : Option ℕ) (c : Bool) → IfSome a (λ i. i < n) → IfSome b (λ i. i < n) → IfSome (cond c a b) (λ i. i < n)
either n a b true p q = p
either n a b false p q = q

settled-within : (g : Gathered) (rule : Option PathRule) (n : ℕ) → Within n g → Within n (settled_by g rule)
unfolding settled_by ruling_of
settled-within g None n w = record { node = w.node; ruling = w.ruling; statement = w.statement; query = w.query }
settled-within g (Some r) n w = record { node = w.node; ruling = w.node; statement = w.statement; query = w.query }

stepped_within : (g : Gathered) (k i n : ℕ) → Within n g → i < n → Within n (stepped g k i)
unfolding stepped
stepped_within g k i n w h =
    let s = settled-within g (rule_of g.kind (Above k)) n w in
    record {
      node = h;
      ruling = s.ruling;
      statement = either n _ _ (trails k) h s.statement;
      query = either n _ _ (eqb k subquery_expression) h s.query;
    }

pub settles : (g r : Gathered) (rule : Option PathRule) → r ≡ settled_by g rule → (r ≡ settled_by g rule) × ((n : ℕ) → Within n g → Within n r)
settles g r rule e = (e, λ n w. rw e (settled-within g rule n w))

pub steps : (g r : Gathered) (k i : ℕ) → r ≡ stepped g k i → (r ≡ stepped g k i) × ((n : ℕ) → Within n g → i < n → Within n r)
steps g r k i e = (e, λ n w h. rw e (stepped_within g k i n w h))

-- ---- the rule of a node over another

-- a rule that does not ask what is next below
pub any-over : (r : PathRule) (b : ℕ) → (r ≡ Insert → ⊥) → (r ≡ Definition → ⊥) → (r ≡ Start → ⊥) → true ≡ applies_over r b
unfolding applies_over
any-over Insert b i d s = absurd (i refl)
any-over Definition b i d s = absurd (d refl)
any-over Start b i d s = absurd (s refl)
any-over r b i d s = refl

-- a rule where it applies with a node of kind o next below
unfoldable pub over : ℕ → Option PathRule → Option PathRule
over o None = None
over o (Some r) = cond (applies_over r o) (Some r) None

-- of twelve tests, one after the other, two ask what is next below
twelve : (a b c d e f g h i j k l : Bool) (o : ℕ)
    → cond a (Some From) (cond b (Some Join) (cond c (cond (eqb o table_identifier) (Some Insert) None) (cond d (Some Settings) (cond e (Some Engine) (cond f (Some Format) (cond g (Some DataType)
    (cond h (cond (eqb o error) (Some Definition) None) (cond i (Some Codec) (cond j (Some Function) (cond k (Some Column) (cond l None None)))))))))))
    ≡ over o (cond a (Some From) (cond b (Some Join) (cond c (Some Insert) (cond d (Some Settings) (cond e (Some Engine) (cond f (Some Format) (cond g (Some DataType)
    (cond h (Some Definition) (cond i (Some Codec) (cond j (Some Function) (cond k (Some Column) (cond l (Some Start) None))))))))))))
unfolding over applies_over
twelve true b c d e f g h i j k l o = refl
twelve false true c d e f g h i j k l o = refl
twelve false false true d e f g h i j k l o = refl
twelve false false false true e f g h i j k l o = refl
twelve false false false false true f g h i j k l o = refl
twelve false false false false false true g h i j k l o = refl
twelve false false false false false false true h i j k l o = refl
twelve false false false false false false false true i j k l o = refl
twelve false false false false false false false false true j k l o = refl
twelve false false false false false false false false false true k l o = refl
twelve false false false false false false false false false false true l o = refl
twelve false false false false false false false false false false false true o = refl
twelve false false false false false false false false false false false false o = refl

pub rule-above : (k b : ℕ) → rule_of k (Above b) ≡ over b (rule_of k Deepest)
unfolding rule_of is_deepest deepest_over
rule-above k b =
    twelve (one_of (from_clause ∷ []) k) (one_of (join_clause ∷ []) k) (one_of (insert_statement ∷ []) k) (one_of (settings_clause ∷ setting_list ∷ []) k)
    (one_of (engine_clause ∷ []) k) (one_of (format_clause ∷ insert_format_clause ∷ []) k) (one_of (column_type_definition ∷ data_type ∷ data_type_parameters ∷ []) k)
    (one_of (column_definition ∷ []) k) (one_of (column_codec ∷ []) k) (one_of (function_call ∷ aggregate_function ∷ []) k)
    (one_of (select_clause ∷ prewhere_clause ∷ where_clause ∷ group_by_clause ∷ having_clause ∷ order_by_clause ∷ []) k) (one_of (file ∷ query_list ∷ []) k) b

-- ---- the descent

abbrev pub way : ℕ → Descent Gathered Gathered
way o = record { takes = holds o; step = λ g r. stepped g r.kind r.index; done = λ g f. settled g Deepest }

pub way-gathered : (o : ℕ) (t : List ℕ) → answer (way o) nothing (records 0 t) ≡ gathered (path_at t o)
unfolding gathered
way-gathered o t = refl

pub nothing-within : (n : ℕ) → 0 < n → Within n nothing
nothing-within n h = record { node = h; ruling = tt; statement = tt; query = tt }
