-- When a table is refused, with which number and which detail: document 01's refusals 1 to 6 and 8, in its order, and document 02's 10 after 2 and 12 after 5.
-- Definitions only.
use Rattle.lent.specs.declared.refusal.Condition.TheVariants.{BadLength, TooLong, NoRoot, BadOffsets}
use Rattle.std.specs.Prelude.{ℕ, List, [], ◌∷◌, ◌++◌}
use Rattle.lent.specs.Verdicts.{Rule, rule, first, Verdict}
use Rattle.records.specs.Table.{count}
use Rattle.conditions.specs.Conditions.{bad_length, too_long, bad_offsets, no_root, no_such_record}
use Rattle.refusals.specs.ByRecord.{rules_from}

-- ---- the rules: each condition with its number and its detail

-- the order: 1, 2, then record by record 3, 4, 5, 12, 6
abbrev pub rules : List ℕ → ℕ → ℕ → List Rule
rules t n m = rule BadLength 0 (bad_length t) ∷ rule TooLong 0 (too_long n m) ∷ rules_from t n 0 (count t)

-- the same with 10 after 2, where the question takes offsets
abbrev pub offset_rules : List ℕ → ℕ → ℕ → List Rule
offset_rules t n b = rule BadLength 0 (bad_length t) ∷ rule TooLong 0 (too_long n 0) ∷ rule BadOffsets 0 (bad_offsets b) ∷ rules_from t n 0 (count t)

-- then 8, where the question names a root
abbrev pub root_rules : List ℕ → ℕ → ℕ → List Rule
root_rules t n i = rules t n 0 ++ rule NoRoot 0 (no_root t i) ∷ []

-- the same, where it names a record of any kind
abbrev pub number_rules : List ℕ → ℕ → ℕ → List Rule
number_rules t n i = rules t n 0 ++ rule NoRoot 0 (no_such_record t i) ∷ []

-- ---- the verdict: the first rule that is broken

-- on a table, a source of n bytes and a message of m bytes
unfoldable pub verdict : List ℕ → ℕ → ℕ → Verdict
verdict t n m = first (rules t n m)

-- on a table, a source of n bytes and the named root i
unfoldable pub root_verdict : List ℕ → ℕ → ℕ → Verdict
root_verdict t n i = first (root_rules t n i)

-- on a table, a source of n bytes and offsets of b bytes
unfoldable pub offset_verdict : List ℕ → ℕ → ℕ → Verdict
offset_verdict t n b = first (offset_rules t n b)
