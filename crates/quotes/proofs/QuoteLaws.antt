-- The three cases of a text without its quotes.
-- Assumes nothing.
use Prim.Native.Nat.{ℕ, ◌+◌, ◌-◌, ◌≤◌, ◌<◌}
use mathlib.Core.Path.{◌≡◌}
use mathlib.Core.Bool.{Bool, true, false, ◌&&◌}
use mathlib.Core.List.{List}
use borrow.Author.Tests.{le-leb, lt-leb}
use lib.Dec.{eqb}
use Rattle.quotes.specs.Quotes.{byte_at, is_mark, unquoted}

module _ (src : List ℕ) (start end : ℕ) where
  pub unquoted-short : end - start < 2 → record { start = start; end = end } ≡ unquoted src start end
  unfolding unquoted
  unquoted-short h = rw (lt-leb 2 (end - start) h)

  module _ {a b : ℕ} {m : Bool} (h : 2 ≤ end - start) (p : a ≡ byte_at src start) (q : b ≡ byte_at src (end - 1)) (n : m ≡ is_mark a) where
    pub unquoted-pair : (m && eqb b a) ≡ true → record { start = start + 1; end = end - 1 } ≡ unquoted src start end
    unfolding unquoted
    unquoted-pair e = rw (le-leb 2 (end - start) h, ← p, ← q, ← n, e)

    pub unquoted-whole : (m && eqb b a) ≡ false → record { start = start; end = end } ≡ unquoted src start end
    unfolding unquoted
    unquoted-whole e = rw (le-leb 2 (end - start) h, ← p, ← q, ← n, e)
