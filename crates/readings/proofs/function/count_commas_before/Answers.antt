use Rattle.std.specs.Prelude.{Option, unwrap_or}
use Rattle.tokens.specs.inner.Turns.{Findings, meant}
use Rattle.readings.proofs.Sweeping.{swept-arguments}
use mathlib.Core.Path.{ap, ◌∙◌}
use Prim.Native.Nat.{ℕ}
use Rattle.readings.proofs.function.count_commas_before.Goals as goal

pub returns : goal.returns
unfolding meant
returns c =
    λ base. c.unwrap_or.ensures ∙ ap (λ (a : Option ℕ). unwrap_or a 0) (ap (λ (f : Findings). f.arguments) (c.sweep-swept.ensures.0 base) ∙ swept-arguments _ _)
