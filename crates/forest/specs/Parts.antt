-- A part of the table, as the tree has it.
-- Definitions only.
use Rattle.std.specs.Prelude.{ℕ}
use Rattle.records.specs.declared.record.Rec.{Rec}
use Rattle.records.specs.Table.{count, record_at, records}
use Rattle.forest.specs.Forest.{Forest, kids}
use Rattle.forest.specs.declared.part.Part.{Part}

-- how many records it has
abbrev pub size : Part → ℕ
size p = count p.bytes.now

-- its first record
abbrev pub head : Part → Rec
head p = record_at p.bytes.now p.base 0

-- what stands below that
abbrev pub below : Part → Forest
below p = kids (records p.base p.bytes.now)
