use Rattle.std.proofs.Common.{◌≡◌, ℕ, ◌+◌, ◌≤◌, List, ◌++◌, length, take, arith, rules, length-take}
use Rattle.std.proofs.Math.Seq.{take-append-add}
use Rattle.std.proofs.lemmas.List.{take-append-le}
use Rattle.std.proofs.KnownBytes.{Consumes-trans}
use Rattle.frame.proofs.stream.read_full.Goals as goal

-- what stands in front of d, and n bytes of what was read behind it
take-more : (xs ys rest : List ℕ) (d n : ℕ) → d ≤ length xs → n ≤ length ys → take (d + n) (take d xs ++ (ys ++ rest)) ≡ take d xs ++ take n ys
take-more xs ys rest d n h k =
    let e : length (take d xs) ≡ d = simp length-take (omega arith) in
    rw (e, take-append-le n ys rest k) at (take-append-add (take d xs) (ys ++ rest) n)

pub loop-done-preserved : goal.loop-done-preserved
loop-done-preserved g c =
    let new = c.read.new.buf in (
      search rules,
      rw (take-more c.loop-done.buf new _ c.loop-done.done c.in_ok-n.n c.loop-done.invariant.0 c.in_ok-n.ensures.bound.0)
          (Consumes-trans _ _ _ _ _ c.loop-done.invariant.1 c.in_ok-n.ensures.bytes.0),
    )
