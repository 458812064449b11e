-- What the reference list of a root shows in a buffer's bytes: the words for demand 3 over bytes.
-- Definitions only; demand 3 is in demands/specs/Demand3.antt, and the theorem on the bytes in proofs/AllRoots.antt.
use Rattle.std.specs.Prelude.{ℕ, zero, suc, ◌≡◌, true, cond, eqb, drop}
use mathlib.Core.List.{List, [], ◌∷◌, Memᴰ}
use Rattle.lent.specs.Numbers.{word}
use Rattle.forest.specs.Places.{Place, nodes_of, sum}
use Rattle.references.specs.References.{reference_bytes}
use Rattle.roots.specs.Reach.{is_root, is_table_name}

-- a root of the table t
abbrev pub RootIn : List ℕ → Place → Type 0
RootIn t p = Memᴰ p (nodes_of t) × (is_root p ≡ true)

-- a table name node of one or two parts of the table t
abbrev pub NameIn : List ℕ → Place → Type 0
NameIn t p = Memᴰ p (nodes_of t) × (is_table_name p ≡ true)

-- the record numbers of the first m references in a buffer
unfoldable pub records_in : ℕ → List ℕ → List ℕ
records_in zero bytes = []
records_in (suc m) bytes = word bytes 0 ∷ records_in m (drop reference_bytes bytes)

-- how often a number stands in a list
abbrev pub times_in : ℕ → List ℕ → ℕ
times_in x = sum (λ (y : ℕ). cond (eqb y x) 1 0)
