-- The one verdict behind the three forms of the check.
-- Definitions only. A reader of the verdict needs none of it.
use Rattle.lent.specs.declared.refusal.Condition.TheVariants.{BadLength, TooLong, BadOffsets}
use Rattle.std.specs.Prelude.{ℕ, List, ◌∷◌}
use Rattle.lent.specs.Verdicts.{rule, first, Verdict}
use Rattle.records.specs.Table.{count}
use Rattle.conditions.specs.Conditions.{bad_length, too_long, bad_offsets}
use Rattle.refusals.specs.ByRecord.{rules_from}

-- the verdict on a table, a source, a message and offsets of these lengths, of which a question takes the source alone or the source and one more
unfoldable pub verdict_on : List ℕ → ℕ → ℕ → ℕ → Verdict
verdict_on t n m b = first (rule BadLength 0 (bad_length t) ∷ rule TooLong 0 (too_long n m) ∷ rule BadOffsets 0 (bad_offsets b) ∷ rules_from t n 0 (count t))
