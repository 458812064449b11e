-- What is gathered on the way down is what the rules need: the deepest node whose rule applies, the deepest statement, and is a
-- JoinConstraint on the path.
-- Assumes nothing.
use Prim.Native.Nat.{ℕ}
use mathlib.Core.Path.{◌≡◌, refl, sym, ap, ◌∙◌}
use mathlib.Core.Bool.{Bool, true, false, cond}
use mathlib.Core.List.{List, [], ◌∷◌}
use Rattle.std.specs.Prelude.{Option, None, Some}
use Rattle.records.specs.declared.record.Rec.{Rec}
use Rattle.records.specs.Kinds.{join_constraint}
use Rattle.records.specs.Table.{kind_at}
use Rattle.forest.specs.Forest.{Forest, inside}
use Rattle.forest.specs.Descent.{along}
use Rattle.contexts.specs.declared.context.CursorContext.{CursorContext}
use Rattle.path.specs.Path.{Next, Deepest, Above}
use Rattle.path.specs.declared.gathered.Gathered.{Gathered}
use Rattle.path.specs.declared.gathered.Ruling.{Ruling}
use Rattle.path.specs.declared.rules.PathRule.{PathRule}
use Rattle.path.specs.declared.rules.PathRule.TheVariants.{From, Join, Insert, Settings, Engine, Format, DataType, Definition, Codec, Function, Column, Start}
use Rattle.path.specs.Path.{path_at, one_of, deepest, on_path, trails, next_of}
use Rattle.contexts.specs.Trailing.{trailing_in}
use Rattle.contexts.specs.PathRules.{NodeRule, Seen, path_rules, ruled, else_ask, by_path}
use Rattle.cursor.specs.CursorContext.{context_at}
use Rattle.contexts.specs.inner.ByNumber.{gives, trailing_from, given_by}
use Rattle.cursor.specs.inner.Steps.{told, ruled_by, analyzed}
use Rattle.path.specs.inner.Rules.{rule_of, rule_number}
use Rattle.path.specs.inner.Gathered.{ruling_of, settled_by, settled, stepped, nothing, gathered}
use Rattle.path.proofs.Kinded.{Kinded, path-kinds}
use Rattle.path.proofs.Gathers.{numbered, gathered-statement, gathered-constrained}

-- ---- one node

-- of rules by these names, the one that speaks of kind k, where it applies, or none
speaking : ℕ → List PathRule → List NodeRule → Option PathRule
speaking k [] rs = None
speaking k (i ∷ is) [] = None
speaking k (i ∷ is) (r ∷ rs) = let on : Option PathRule = speaking k is rs in cond (one_of r.kinds k) (cond r.applies (Some i) None) on

-- what is told by it
picked : (Option PathRule → Option CursorContext) → ℕ → List PathRule → List NodeRule → Option CursorContext
picked tell k [] rs = tell None
picked tell k (i ∷ is) [] = tell None
picked tell k (i ∷ is) (r ∷ rs) =
    let on : Option CursorContext = picked tell k is rs in
    cond (one_of r.kinds k) (cond r.applies (tell (Some i)) (tell None)) on

picked-speaking : (tell : Option PathRule → Option CursorContext) (k : ℕ) (is : List PathRule) (rs : List NodeRule) → picked tell k is rs ≡ tell (speaking k is rs)
unfolding picked speaking
picked-speaking tell k [] rs = refl
picked-speaking tell k (i ∷ is) [] = refl
picked-speaking tell k (i ∷ is) (r ∷ rs) = go (one_of r.kinds k) r.applies (picked-speaking tell k is rs)
  where
    go : (b a : Bool) → picked tell k is rs ≡ tell (speaking k is rs)
        → cond b (cond a (tell (Some i)) (tell None)) (picked tell k is rs) ≡ tell (cond b (cond a (Some i) None) (speaking k is rs))
    go true true e = refl
    go true false e = refl
    go false a e = e

-- the rules' names in their order
abbrev names : List PathRule
names = From ∷ Join ∷ Insert ∷ Settings ∷ Engine ∷ Format ∷ DataType ∷ Definition ∷ Codec ∷ Function ∷ Column ∷ Start ∷ []

module _ (src : List ℕ) (o : ℕ) (c : Bool) where
  abbrev at : ℕ → Next → Forest → Seen
  at k x f = record { kind = k; next = x; children = f; constrained = c }

  -- what a rule gives at a node of kind k, if there is one
  unfoldable told-of : Option PathRule → ℕ → Forest → Option CursorContext
  told-of None k f = None
  told-of (Some r) k f = Some (given_by src o c (rule_number r) k f)

  rule-at : (k : ℕ) (x : Next) (f : Forest) → ruled k (path_rules src o (at k x f)) ≡ told-of (rule_of k x) k f
  unfolding picked speaking ruled gives path_rules rule_of given_by told-of
  rule-at k x f = picked-speaking (λ n. told-of n k f) k names (path_rules src o (at k x f))

-- ---- the deepest node whose rule applies

else-assoc : (a b c : Option CursorContext) → else_ask (else_ask a b) c ≡ else_ask a (else_ask b c)
unfolding else_ask
else-assoc None b c = refl
else-assoc (Some x) b c = refl

else-none : (a : Option CursorContext) → else_ask a None ≡ a
unfolding else_ask
else-none None = refl
else-none (Some x) = refl

module _ (src t : List ℕ) (o : ℕ) (c : Bool) where
  -- what is told by the node that is kept
  abbrev told_at : Option Ruling → Option CursorContext
  told_at x = told src t o c x

  settle-told : (g : Gathered) (x : Next) → g.kind ≡ kind_at t g.node
      → else_ask (ruled g.kind (path_rules src o (at src o c g.kind x (inside t g.node)))) (told_at g.ruling) ≡ told_at (settled g x).ruling
  unfolding settled_by else_ask told told-of ruling_of
  settle-told g x q = rw (rule-at src o c g.kind x (inside t g.node)) (go (rule_of g.kind x))
    where
      go : (n : Option PathRule) → else_ask (told-of src o c n g.kind (inside t g.node)) (told_at g.ruling) ≡ told_at (ruling_of g.node g.ruling n)
      go None = refl
      go (Some r) = rw q

  abbrev step : Gathered → Rec → Gathered
  step g r = stepped g r.kind r.index

  path-told : (l : List Rec) (p : Rec) (g : Gathered) → g.kind ≡ p.kind → g.node ≡ p.index → Kinded t (p ∷ l)
      → else_ask (by_path src t o c (p ∷ l)) (told_at g.ruling) ≡ told_at (settled (along step g l) Deepest).ruling
  unfolding by_path along next_of else_ask stepped Kinded
  path-told [] p g e q z = rw (← e, ← q) (settle-told g Deepest (rw (e, q) z.0))
  path-told (r ∷ l) p g e q z =
      else-assoc (by_path src t o c (r ∷ l)) _ _
      ∙ ap (else_ask (by_path src t o c (r ∷ l))) (rw (← e, ← q) (settle-told g (Above r.kind) (rw (e, q) z.0)))
      ∙ path-told l r (step g r) refl refl z.1

  path-ruled : (p : List Rec) → Kinded t p → by_path src t o c p ≡ told_at (gathered p).ruling
  unfolding gathered along by_path settled_by ruling_of stepped rule_of told
  path-ruled [] z = refl
  path-ruled (r ∷ l) z = sym (else-none (by_path src t o c (r ∷ l))) ∙ path-told l r (step nothing r) refl refl z

trailing-numbered : (t : List ℕ) (o : ℕ) (b : Option Rec) → trailing_from t o (numbered b) ≡ trailing_in t o b
unfolding trailing_from trailing_in numbered
trailing-numbered t o None = refl
trailing-numbered t o (Some r) = refl

pub analyzed-context : (src t : List ℕ) (o : ℕ) → analyzed src t o (gathered (path_at t o)) ≡ context_at src t o
unfolding analyzed context_at ruled_by
analyzed-context src t o =
    let p : List Rec = path_at t o in
    rw (gathered-statement p, trailing-numbered t o (deepest trails p), gathered-constrained p) (rw (path-ruled src t o (on_path join_constraint p) p (path-kinds t o)))
