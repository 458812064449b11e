-- Document 01's limits, of the records of a tree: so the number of a record, and the range of a token, fit 32 bits wherever an entry has them.
-- Of a node's span they say nothing: it may hold any numbers of four bytes, and fits for that reason.
-- Definitions only; that an admitted table's tree keeps them is `admitted-limited` in proofs/Limits.antt.
use Rattle.std.specs.Prelude.{ℕ, suc, ◌+◌, ◌≤◌, ◌<◌, List, [], ◌∷◌}
use Rattle.lent.specs.Numbers.{word_limit}
use Rattle.records.specs.declared.record.Rec.{Rec}
use Rattle.conditions.specs.Conditions.{most_records, most_source}
use Rattle.forest.specs.Forest.{Forest, nil, token, node}

-- a range within the longest source
abbrev pub WithinSource : Rec → Type 0
WithinSource r = (r.start ≤ most_source) × (r.end ≤ most_source)

-- each of some tokens has such a range
unfoldable pub AllWithinSource : List Rec → Type 0
AllWithinSource [] = Unit
AllWithinSource (r ∷ rs) = WithinSource r × AllWithinSource rs

-- every record's number is below 4,096, and every token ends within 65,536 bytes
unfoldable pub Limited : Forest → Type 0
Limited nil = Unit
Limited (token r rest) = ((r.index < most_records) × WithinSource r) × Limited rest
Limited (node r below rest) = (r.index < most_records) × Limited below × Limited rest

-- every node's span fits 32 bits
unfoldable pub SpansFit : Forest → Type 0
SpansFit nil = Unit
SpansFit (token r rest) = SpansFit rest
SpansFit (node r below rest) = ((r.start < word_limit) × (r.end < word_limit)) × SpansFit below × SpansFit rest

-- how many records there are among siblings and below them
unfoldable pub size : Forest → ℕ
size nil = 0
size (token r rest) = suc (size rest)
size (node r below rest) = suc (size below + size rest)
