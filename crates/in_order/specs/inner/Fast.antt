-- The fast check: what its small tests say, and what it knows before a record. A reader of the verdict needs none of it.
-- Definitions only.
use Rattle.std.specs.Prelude.{ℕ, ◌≤◌, ◌<◌, ◌≡◌, Bool, true, false, not, ◌&&◌, List, ltb, leb, eqb, length, get_or}
use Rattle.records.specs.Kinds.{is_node, is_token}
use Rattle.records.specs.Table.{kind_at, depth_at, start_at, end_at, parent_at}
use Rattle.conditions.specs.Conditions.{most_depth, unlisted, misplaced, too_deep, nearest, wrong_parent, last_end}
use Rattle.record_conditions.specs.inner.Step.{depths, deepest_next}

-- record 0 is a node of depth 0 that carries 0
abbrev pub first_fits : List ℕ → Bool
first_fits t = is_node (kind_at t 0) && eqb (depth_at t 0) 0 && eqb (parent_at t 0) 0

-- a token from s to e is not before the last one's end
abbrev pub span_fits : ℕ → ℕ → ℕ → Bool
span_fits s e last = not (ltb s last) && leb s e

-- record j of the table t keeps its rules, but for where the source ends
pub record Kept (t : List ℕ) (j : ℕ) : Type 0 where
  pub listed : unlisted t j ≡ false
  pub placed : misplaced t j ≡ false
  pub shallow : too_deep t j ≡ false
  pub parented : wrong_parent t j ≡ false
  pub spanned : is_token (kind_at t j) ≡ true → (start_at t j ≤ end_at t j) × (last_end t j ≤ start_at t j)

-- before record i of the table t: the records before it keep theirs; how deep it may be, the node that it carries if it is as deep, the last token's end, and
-- above, for each depth, the last node one less deep
pub record InOrder (t : List ℕ) (i limit parent last : ℕ) (above : List ℕ) : Type 0 where
  pub kept : (j : ℕ) → j < i → Kept t j
  pub reach : limit ≤ deepest_next t i
  pub shallow : limit ≤ most_depth
  pub below : 1 ≤ limit
  pub carried : parent ≡ nearest t limit i
  pub ends : last ≡ last_end t i
  pub wide : length above ≡ depths
  pub parents : (d : ℕ) → 1 ≤ d → d ≤ limit → get_or above d 0 ≡ nearest t d i
