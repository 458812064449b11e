-- What stands above a record: the nodes in whose stretches it is, nearest first.
-- t is the table's bytes, n a record's number.
-- Definitions only; proofs/Above.antt says that on an admitted table it is the record's parent, then that one's parent, up to record 0.
use Rattle.std.specs.Prelude.{ℕ, zero, suc, Bool, cond, ◌&&◌, List, [], ◌∷◌, ltb}
use Rattle.forest.specs.Forest.{stretch_end}

-- record n stands below record x: in its stretch, behind its head
abbrev pub stands_below : List ℕ → ℕ → ℕ → Bool
stands_below t x n = ltb x n && ltb n (stretch_end t x)

-- those of the first i records that record n, which comes after them, stands below, nearest first
unfoldable pub above_among : List ℕ → ℕ → ℕ → List ℕ
above_among t n zero = []
above_among t n (suc x) =
    let on : List ℕ = above_among t n x in
    let more : List ℕ = x ∷ on in
    cond (ltb n (stretch_end t x)) more on

-- what stands above record n, nearest first
abbrev pub above : List ℕ → ℕ → List ℕ
above t n = above_among t n n
