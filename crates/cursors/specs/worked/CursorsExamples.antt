-- The offsets of a list of bytes, computed.
use Rattle.std.specs.Prelude.{◌≡◌, refl, [], ◌∷◌, ◌++◌}
use Rattle.lent.specs.Numbers.{word, le4}
use Rattle.cursors.specs.Cursors.{offsets_from, offsets_of}

-- none; three, of which one comes twice; what is left of a fourth is none
offsets : offsets_of [] ∷ offsets_of (le4 10 ++ le4 4294967295 ++ le4 10) ∷ offsets_of (le4 258 ++ 7 ∷ []) ∷ [] ≡ [] ∷ (10 ∷ 4294967295 ∷ 10 ∷ []) ∷ (258 ∷ []) ∷ []
unfolding offsets_from word
offsets = refl
