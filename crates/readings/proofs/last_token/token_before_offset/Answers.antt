use Rattle.tokens.specs.inner.Turns.{Findings, meant}
use Rattle.readings.proofs.Sweeping.{swept-two}
use mathlib.Core.Path.{ap, ◌∙◌}
use Rattle.readings.proofs.last_token.token_before_offset.Goals as goal

pub returns : goal.returns
unfolding meant
returns c =
    λ base. rw (c.token_of.ensures, c.token_of-2.ensures) (ap (λ (f : Findings). f.two) (c.sweep-swept.ensures.0 base) ∙ swept-two _ _)
