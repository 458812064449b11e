use Rattle.rooms.proofs.RoomLaws.{short-entry, short-names, short-aliases, short-columns, short-refs, all-rooms}
use native.Mathlib.Omega.{arith}
use Rattle.rooms.proofs.rooms.room_for.Goals as goal

pub returns-then-e-lt-EVERYTHING_BYTES : goal.returns-then-e-lt-EVERYTHING_BYTES
returns-then-e-lt-EVERYTHING_BYTES c = rw c.refused.ensures (short-entry _ _ _ _ _ _ (omega arith))

pub returns-then-w-c : goal.returns-then-w-c
returns-then-w-c c = rw c.refused-then-w-c.ensures (short-names _ _ _ _ _ _ (omega arith) (omega arith))

pub returns-then-a-c : goal.returns-then-a-c
returns-then-a-c c = rw c.refused-then-a-c.ensures (short-aliases _ _ _ _ _ _ (omega arith) (omega arith) (omega arith))

pub returns-then-b-c : goal.returns-then-b-c
returns-then-b-c c = rw c.refused-then-b-c.ensures (short-columns _ _ _ _ _ _ (omega arith) (omega arith) (omega arith) (omega arith))

pub returns-then-r-c : goal.returns-then-r-c
returns-then-r-c c = rw c.refused-then-r-c.ensures (short-refs _ _ _ _ _ _ (omega arith) (omega arith) (omega arith) (omega arith) (omega arith))

pub returns : goal.returns
returns c = all-rooms _ _ _ _ _ _ (omega arith) (omega arith) (omega arith) (omega arith) (omega arith)
