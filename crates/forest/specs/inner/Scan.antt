-- A reading of a forest in document order that goes into some nodes and passes over the others.
-- Definitions only.
use Rattle.std.specs.Prelude.{Bool, cond}
use Rattle.records.specs.declared.record.Rec.{Rec}
use Rattle.forest.specs.Forest.{Forest, nil, token, node}

-- what a reading does: what a token makes of what is known so far, what a node makes of it, and is the node gone into
pub record Reading (S : Type 0) : Type 0 where
  pub at_token : S → Rec → S
  pub at_node : S → Rec → S
  pub enters : S → Rec → Bool

-- what is known after the siblings, where s is known before them
unfoldable pub fold : {S : Type 0} → Reading S → S → Forest → S
fold R s nil = s
fold R s (token r rest) = fold R (R.at_token s r) rest
fold {S} R s (node r below rest) =
    let here : S = R.at_node s r in
    let inside : S = fold R here below in
    fold R (cond (R.enters s r) inside here) rest

-- the reading that takes a step at the tokens that count, and goes into nodes by their records alone
abbrev pub of_tokens : {S : Type 0} → (S → Rec → S) → (Rec → Bool) → (Rec → Bool) → Reading S
of_tokens step counts enters = record { at_token = λ s r. cond (counts r) (step s r) s; at_node = λ s r. s; enters = λ s r. enters r }
