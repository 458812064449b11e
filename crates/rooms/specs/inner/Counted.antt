-- Which buffer has no room first, by the counts. A reader of the promise needs none of it.
-- Definitions only.
use Rattle.lent.specs.declared.refusal.Condition.TheVariants.{NoRoom}
use Rattle.std.specs.Prelude.{ℕ, ◌*◌, List, [], ◌∷◌, ltb}
use Rattle.lent.specs.Verdicts.{Rule, rule}
use Rattle.names.specs.Bindings.{binding_bytes}
use Rattle.references.specs.References.{reference_bytes}
use Rattle.rooms.specs.declared.rooms.Counts.{Counts}
use Rattle.rooms.specs.Rooms.{everything_bytes}

-- 7, by the counts, for buffers of these lengths
unfoldable pub rooms_for : Counts → ℕ → ℕ → ℕ → ℕ → ℕ → List Rule
rooms_for c e w a b r =
    rule NoRoom 1 (ltb e everything_bytes)
    ∷ rule NoRoom c.names (ltb w (c.names * binding_bytes))
    ∷ rule NoRoom c.aliases (ltb a (c.aliases * binding_bytes))
    ∷ rule NoRoom c.columns (ltb b (c.columns * binding_bytes))
    ∷ rule NoRoom c.refs (ltb r (c.refs * reference_bytes))
    ∷ []
