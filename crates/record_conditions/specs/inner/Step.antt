-- How the check goes through the records: what it carries along, and what it finds at a record.
-- Definitions only. A reader of the conditions needs none of them.
use Rattle.lent.specs.declared.refusal.Condition.TheVariants.{UnlistedKind, Misplaced, TooDeep}
use Rattle.lent.specs.declared.refusal.Condition.{Condition}
use Rattle.std.specs.Prelude.{ℕ, zero, suc, ◌+◌, Bool, cond, not, ◌&&◌, ◌||◌, List, ltb, eqb, Option, Some, None}
use Rattle.records.specs.declared.record.Rec.{Rec}
use Rattle.records.specs.Kinds.{is_node, is_token}
use Rattle.records.specs.Table.{kind_at, depth_at}
use Rattle.record_conditions.specs.declared.step.Known.{Known}
use Rattle.conditions.specs.Conditions.{most_depth, last_end}

-- how deep the record after one of kind k and depth d may be: one below a node, and no deeper than a token
abbrev pub below : ℕ → ℕ → ℕ
below k d = cond (is_token k) d (d + 1)

-- how deep record i may be
unfoldable pub deepest_next : List ℕ → ℕ → ℕ
deepest_next t zero = 0
deepest_next t (suc i) = below (kind_at t i) (depth_at t i)

-- how many depths the record after one may have: 0 to one below the deepest
abbrev pub depths : ℕ
depths = 65

-- what is known before record i
unfoldable pub known_at : List ℕ → ℕ → Known
known_at t i = record { deepest = deepest_next t i; end = last_end t i }

-- after a record
unfoldable pub after : Known → Rec → Known
after b r = record { deepest = below r.kind r.depth; end = cond (is_token r.kind) r.end b.end }

-- a kind that is not listed
unfoldable pub strange : ℕ → Bool
strange k = not (is_node k || is_token k)

-- a record that is out of place
unfoldable pub out_of_place : Known → Rec → Bool
out_of_place b r =
    cond (eqb r.index 0) (not (is_node r.kind && eqb r.depth 0)) (eqb r.depth 0 || ltb b.deepest r.depth)

-- a token with a bad span, for a source of n bytes
unfoldable pub off_source : ℕ → Known → Rec → Bool
off_source n b r = is_token r.kind && (ltb r.end r.start || ltb n r.end || ltb r.start b.end)

-- the first of 3, 4 and 5 that a record breaks
unfoldable pub misfit_of : Known → Rec → Option Condition
misfit_of b r =
    cond (strange r.kind) (Some UnlistedKind)
    (cond (out_of_place b r) (Some Misplaced)
    (cond (ltb most_depth r.depth) (Some TooDeep)
    None))
