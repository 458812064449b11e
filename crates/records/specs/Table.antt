-- The tree table: twenty bytes a record, five 32-bit little-endian numbers, kind, depth, start, end, parent.
-- Definitions only.
use Rattle.std.specs.Prelude.{ℕ, zero, suc, ◌+◌, ◌-◌, ◌*◌, ◌/◌, List, [], ◌∷◌, length, take, drop}
use Rattle.lent.specs.Numbers.{word}
use Rattle.records.specs.declared.record.Rec.{Rec}

-- how many bytes a record has
abbrev pub record_bytes : ℕ
record_bytes = 20

-- how many records t has: what is left of a record is none
abbrev pub count : List ℕ → ℕ
count t = length t / record_bytes

-- the five numbers of record i
abbrev pub kind_at : List ℕ → ℕ → ℕ
kind_at t i = word t (record_bytes * i)

abbrev pub depth_at : List ℕ → ℕ → ℕ
depth_at t i = word t (record_bytes * i + 4)

abbrev pub start_at : List ℕ → ℕ → ℕ
start_at t i = word t (record_bytes * i + 8)

abbrev pub end_at : List ℕ → ℕ → ℕ
end_at t i = word t (record_bytes * i + 12)

abbrev pub parent_at : List ℕ → ℕ → ℕ
parent_at t i = word t (record_bytes * i + 16)

-- record i of t, where t's first record has the number base
unfoldable pub record_at : List ℕ → ℕ → ℕ → Rec
record_at t base i =
    record { index = base + i; kind = kind_at t i; depth = depth_at t i; start = start_at t i; end = end_at t i }

-- n records of t, from record i on
unfoldable pub run : List ℕ → ℕ → ℕ → ℕ → List Rec
run t base i zero = []
run t base i (suc n) = record_at t base i ∷ run t base (i + 1) n

-- the records of t from record i on
unfoldable pub from : List ℕ → ℕ → ℕ → List Rec
from t base i = run t base i (count t - i)

-- all records of t
abbrev pub records : ℕ → List ℕ → List Rec
records base t = from t base 0

-- the bytes of the records from a up to, not including, e
abbrev pub part : List ℕ → ℕ → ℕ → List ℕ
part t a e = take (record_bytes * e - record_bytes * a) (drop (record_bytes * a) t)
