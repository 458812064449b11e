use Rattle.tokens.proofs.Tokens.{texts-equal}
use mathlib.Core.Path.{◌∙◌}
use mathlib.Core.List.{[], ◌∷◌}
use Rattle.tokens.proofs.last_token.is_byte.Goals as goal

pub returns : goal.returns
returns c = c.eq.ensures ∙ rw c.as_slice.ensures (texts-equal c.args.t.now (c.args.b ∷ []))
