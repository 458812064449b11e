-- Which buffer has no room first.
--     short-.., all-rooms
-- Assumes nothing.
use Prim.Native.Nat.{ℕ, ◌*◌, ◌≤◌, ◌<◌}
use mathlib.Core.Path.{◌≡◌}
use borrow.Author.Tests.{lt-ltb, le-ltb}
use Rattle.std.specs.Prelude.{Ok}
use Rattle.lent.specs.declared.refusal.Condition.TheVariants.{NoRoom}
use Rattle.lent.specs.Verdicts.{first, refused}
use Rattle.names.specs.Bindings.{binding_bytes}
use Rattle.references.specs.References.{reference_bytes}
use Rattle.rooms.specs.declared.rooms.Counts.{Counts}
use Rattle.rooms.specs.Rooms.{everything_bytes}
use Rattle.rooms.specs.inner.Counted.{rooms_for}

module _ (c : Counts) (e w a b r : ℕ) where
  pub short-entry : e < everything_bytes → refused NoRoom 1 ≡ first (rooms_for c e w a b r)
  unfolding rooms_for
  short-entry h = rw (lt-ltb e everything_bytes h)

  module _ (he : everything_bytes ≤ e) where
    pub short-names : w < c.names * binding_bytes → refused NoRoom c.names ≡ first (rooms_for c e w a b r)
    unfolding rooms_for
    short-names h = rw (le-ltb e everything_bytes he, lt-ltb w (c.names * binding_bytes) h)

    module _ (hw : c.names * binding_bytes ≤ w) where
      pub short-aliases : a < c.aliases * binding_bytes → refused NoRoom c.aliases ≡ first (rooms_for c e w a b r)
      unfolding rooms_for
      short-aliases h = rw (le-ltb e everything_bytes he, le-ltb w (c.names * binding_bytes) hw, lt-ltb a (c.aliases * binding_bytes) h)

      module _ (ha : c.aliases * binding_bytes ≤ a) where
        pub short-columns : b < c.columns * binding_bytes → refused NoRoom c.columns ≡ first (rooms_for c e w a b r)
        unfolding rooms_for
        short-columns h =
            rw (le-ltb e everything_bytes he, le-ltb w (c.names * binding_bytes) hw, le-ltb a (c.aliases * binding_bytes) ha, lt-ltb b (c.columns * binding_bytes) h)

        module _ (hb : c.columns * binding_bytes ≤ b) where
          pub short-refs : r < c.refs * reference_bytes → refused NoRoom c.refs ≡ first (rooms_for c e w a b r)
          unfolding rooms_for
          short-refs h =
              rw (le-ltb e everything_bytes he, le-ltb w (c.names * binding_bytes) hw, le-ltb a (c.aliases * binding_bytes) ha, le-ltb b (c.columns * binding_bytes) hb, lt-ltb r (c.refs * reference_bytes) h)

          pub all-rooms : c.refs * reference_bytes ≤ r → Ok tt ≡ first (rooms_for c e w a b r)
          unfolding rooms_for
          all-rooms h =
              rw (le-ltb e everything_bytes he, le-ltb w (c.names * binding_bytes) hw, le-ltb a (c.aliases * binding_bytes) ha, le-ltb b (c.columns * binding_bytes) hb, le-ltb r (c.refs * reference_bytes) h)
