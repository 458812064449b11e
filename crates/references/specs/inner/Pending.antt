-- Whether a reference is pending.
-- Definitions only. A reader of the lists needs none of them.
use Rattle.references.specs.declared.pending.TableRef.{TableRef}
use Rattle.std.specs.Prelude.{Bool, true, false, Option, Some, None}

-- is a reference pending
abbrev pub pends : Option TableRef → Bool
pends None = false
pends (Some t) = true
