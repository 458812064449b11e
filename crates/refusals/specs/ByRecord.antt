-- The rules of a record, each condition with its number and its detail, in the order of document 01, with document 02's 12 after 5.
-- Definitions only.
use Rattle.lent.specs.declared.refusal.Condition.TheVariants.{UnlistedKind, Misplaced, TooDeep, BadSpan, WrongParent}
use Rattle.std.specs.Prelude.{ℕ, zero, suc, List, [], ◌∷◌, ◌++◌}
use Rattle.lent.specs.Verdicts.{Rule, rule}
use Rattle.conditions.specs.Conditions.{unlisted, misplaced, too_deep, wrong_parent, bad_span}

-- of record i: 3, 4, 5, 12, 6
abbrev pub rules_at : List ℕ → ℕ → ℕ → List Rule
rules_at t n i =
    rule UnlistedKind i (unlisted t i) ∷ rule Misplaced i (misplaced t i) ∷ rule TooDeep i (too_deep t i) ∷ rule WrongParent i (wrong_parent t i) ∷ rule BadSpan i (bad_span t n i) ∷ []

-- of c records from record i on, record by record
unfoldable pub rules_from : List ℕ → ℕ → ℕ → ℕ → List Rule
rules_from t n i zero = []
rules_from t n i (suc c) = rules_at t n i ++ rules_from t n (suc i) c
