-- The search in one pass: what is carried along. A reader of the promises needs none of it.
-- Definitions only.
use Rattle.std.specs.Prelude.{ℕ, ◌+◌, Bool, cond, ◌&&◌, leb, Option, Some}
use Rattle.records.specs.declared.record.Rec.{Rec}
use Rattle.records.specs.Ranges.{holds}
use Rattle.forest.specs.inner.Scan.{Reading}
use Rattle.statement.specs.Statement.{is_statement}

-- the innermost statement so far, if any; and how deep what stands in it is
pub record Sofar : Type 0 where
  pub best : Option ℕ
  pub floor : ℕ

-- a node is gone into if it holds the offset and is not past the statement
abbrev pub goes_into : ℕ → Sofar → Rec → Bool
goes_into o s r = leb s.floor r.depth && holds o r

-- what a node makes of it
abbrev pub met : ℕ → Sofar → Rec → Sofar
met o s r = cond (goes_into o s r && is_statement r.kind) (record { best = Some r.index; floor = r.depth + 1 }) s

-- the pass
unfoldable pub passing : ℕ → Reading Sofar
passing o = record { at_token = λ s r. s; at_node = met o; enters = goes_into o }
