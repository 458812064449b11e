-- What is carried along on the way down. A reader of the promises needs none of it.
-- Definitions only.
use Rattle.std.specs.Prelude.{ℕ, ◌<◌, false, cond, ◌||◌, List, eqb, Option, None, Some, IfSome}
use Rattle.records.specs.declared.record.Rec.{Rec}
use Rattle.forest.specs.Descent.{along}
use Rattle.records.specs.Kinds.{other_node, join_constraint, subquery_expression}
use Rattle.path.specs.Path.{Next, Deepest, Above}
use Rattle.path.specs.declared.gathered.Gathered.{Gathered}
use Rattle.path.specs.declared.gathered.Ruling.{Ruling}
use Rattle.path.specs.declared.rules.PathRule.{PathRule}
use Rattle.path.specs.Path.{trails}
use Rattle.path.specs.inner.Rules.{rule_of}

-- node i decides by its rule, where that applies, else the node that did
unfoldable pub ruling_of : ℕ → Option Ruling → Option PathRule → Option Ruling
ruling_of i last None = last
ruling_of i last (Some r) = Some (record { node = i; rule = r })

-- the last node is settled by this rule: if it applies, it is the one that decides
unfoldable pub settled_by : Gathered → Option PathRule → Gathered
settled_by g rule =
    record {
      node = g.node;
      kind = g.kind;
      ruling = ruling_of g.node g.ruling rule;
      statement = g.statement;
      query = g.query;
      constrained = g.constrained;
    }

-- by the rule that speaks of it, where this is next below
abbrev pub settled : Gathered → Next → Gathered
settled g n = settled_by g (rule_of g.kind n)

-- one step down, to node i, of kind k
unfoldable pub stepped : Gathered → ℕ → ℕ → Gathered
stepped g k i =
    let s : Gathered = settled g (Above k) in
    record {
      node = i;
      kind = k;
      ruling = s.ruling;
      statement = cond (trails k) (Some i) s.statement;
      query = cond (eqb k subquery_expression) (Some i) s.query;
      constrained = s.constrained || eqb k join_constraint;
    }

-- nothing gathered yet
abbrev pub nothing : Gathered
nothing = record { node = 0; kind = other_node; ruling = None; statement = None; query = None; constrained = false }

-- what a path's nodes make of it, and that nothing is below the last
unfoldable pub gathered : List Rec → Gathered
gathered p = settled (along (λ g r. stepped g r.kind r.index) nothing p) Deepest

-- the records that it names are among n
pub record Within (n : ℕ) (g : Gathered) : Type 0 where
  pub node : g.node < n
  pub ruling : IfSome g.ruling (λ r. r.node < n)
  pub statement : IfSome g.statement (λ i. i < n)
  pub query : IfSome g.query (λ i. i < n)
