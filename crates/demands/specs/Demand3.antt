-- Demand 3: over all roots' reference lists together, a table name node of one or two parts appears only under its nearest root above, once for
-- each FROM or JOIN that reaches it, and nothing else appears; so the lists' total is that count summed over the tree.
-- `Served` is every way in which `ask` can be asked for the references at all roots of a table, with room for each list: of its replies only
-- its contract is used, demands 1 and 2. The words are in roots/specs/Reach.antt, and on one tree in roots/specs/worked/AllRootsExamples.antt.
-- Definitions only; the theorems are `demand-3` and `served` in proofs/Demand3.antt.
use Rattle.std.specs.Prelude.{ℕ, ◌/◌, ◌≤◌, ◌≡◌, cond, List, length, Ok}
use Rattle.records.specs.Table.{records}
use Rattle.table.specs.Rules.{verdict}
use Rattle.forest.specs.Places.{Place, nodes_of, selves, node_records, sum}
use Rattle.roots.specs.Reach.{is_root, is_table_name, root_is, reaches}
use Rattle.roots.specs.AllRoots.{RootIn, NameIn, records_in, times_in}
use Rattle.replies.specs.Reply.{half}
use Rattle.demands.specs.declared.Question.TheVariants.{TableRefs}
use Rattle.demands.specs.Questions.{Asked, matter, said_bytes}
use Rattle.demands.specs.Demand1.{Answer}
use Rattle.demands.specs.Demand2.{Meets}

-- the reference question at record i of the table t, over this source: what is asked, the reply, and what is in the buffer afterwards
pub record ServedAt (source t : List ℕ) (i : ℕ) (a : Asked) (reply : ℕ) (out : List ℕ) : Type 0 where
  pub source_is : a.source ≡ source
  pub table_is : a.table ≡ t
  pub root_is : a.root ≡ i
  -- the buffer has room for the list
  pub room : length (said_bytes (matter TableRefs a).said) ≤ length a.out
  -- the contract of `ask`
  pub met : Meets TableRefs a reply out

-- it is asked so at every root of the table: `asks i`, `reply i` and `out i` of the root with record number i
pub record Served (source t : List ℕ) : Type 0 where
  pub asks : ℕ → Asked
  pub reply : ℕ → ℕ
  pub out : ℕ → List ℕ
  pub each : (root : Place) → RootIn t root → ServedAt source t root.self.index (asks root.self.index) (reply root.self.index) (out root.self.index)

-- how many entries a reply tells: its high half
abbrev pub entries_of : ℕ → ℕ
entries_of reply = reply / half

-- the record numbers that the list of root i shows
abbrev pub shown : {source t : List ℕ} → Served source t → ℕ → List ℕ
shown s i = records_in (entries_of (s.reply i)) (s.out i)

-- what is then true of the replies and the bytes
pub record Demand3 (source t : List ℕ) (s : Served source t) : Type 0 where
  -- every list is given
  pub given : (root : Place) → RootIn t root → Answer (s.reply root.self.index)
  -- a table name node of one or two parts appears only under its nearest root above, once for each FROM or JOIN that reaches it
  pub names : (root p : Place) → RootIn t root → NameIn t p
      → times_in p.self.index (shown s root.self.index) ≡ cond (root_is root.self.index p.above) (reaches p) 0
  -- and nothing else appears
  pub others : (root : Place) (x : ℕ) → RootIn t root → ((p : Place) → NameIn t p → p.self.index ≡ x → ⊥) → times_in x (shown s root.self.index) ≡ 0
  -- so the lists' total is that count summed over the tree
  pub total : sum (λ (root : Place). cond (is_root root) (entries_of (s.reply root.self.index)) 0) (nodes_of t)
      ≡ sum (λ (p : Place). cond (is_table_name p) (reaches p) 0) (nodes_of t)
  -- the nodes that are spoken of are exactly the table's, in its order
  pub nodes : selves (nodes_of t) ≡ node_records (records 0 t)

-- of every admitted table, in whatever buffers with room; and there is such a serving of each
abbrev pub Demanded3 : Type 0
Demanded3 = (source t : List ℕ) → verdict t (length source) 0 ≡ Ok tt → Served source t × ((s : Served source t) → Demand3 source t s)
