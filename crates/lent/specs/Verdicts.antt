-- What a question is refused for: the first of its rules that is broken.
-- Definitions only.
use Rattle.std.specs.Prelude.{ℕ, ◌≡◌, Bool, cond, List, [], ◌∷◌, Result, Ok, Err, ⊤}
use Rattle.lent.specs.declared.refusal.Condition.{Condition}
use Rattle.lent.specs.declared.refusal.Condition.TheVariants.{BadLength, TooLong, UnlistedKind, Misplaced, TooDeep, BadSpan, NoRoom, NoRoot, BadLine, BadOffsets, WrongParent}
use Rattle.lent.specs.declared.refusal.Refusal.{Refusal}

-- the documents' number of a condition
abbrev pub number_of : Condition → ℕ
number_of BadLength = 1
number_of TooLong = 2
number_of UnlistedKind = 3
number_of Misplaced = 4
number_of TooDeep = 5
number_of BadSpan = 6
number_of NoRoom = 7
number_of NoRoot = 8
number_of BadLine = 9
number_of BadOffsets = 10
number_of WrongParent = 12

-- a refusal: the condition that holds, and its detail
abbrev pub refused : {A : Type 0} → Condition → ℕ → Result A Refusal
refused c d = Err (record { condition = c; detail = d })

-- a verdict: nothing is against it, or it is refused
abbrev pub Verdict : Type 0
Verdict = Result ⊤ Refusal

-- a rule: a condition with its detail, and whether it holds
pub record Rule : Type 0 where
  pub condition : Condition
  pub detail : ℕ
  pub broken : Bool

abbrev pub rule : Condition → ℕ → Bool → Rule
rule c d b = record { condition = c; detail = d; broken = b }

-- the verdict: the first rule that is broken
abbrev pub first : List Rule → Verdict
first [] = Ok tt
first (r ∷ rs) = cond r.broken (refused r.condition r.detail) (first rs)

-- a reply is the refusal of number k, with detail d
abbrev pub IsRefused : {A : Type 0} → Result A Refusal → ℕ → ℕ → Type 0
IsRefused (Ok answer) k d = ⊥
IsRefused (Err r) k d = (number_of r.condition ≡ k) × (r.detail ≡ d)
