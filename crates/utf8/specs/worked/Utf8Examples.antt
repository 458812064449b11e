-- Characters of each length, and sequences that are none: a byte that only goes on, an overlong form, a surrogate, and one past U+10FFFF.
use Rattle.std.specs.Prelude.{◌≡◌, refl, true, false, [], ◌∷◌, map}
use Rattle.utf8.specs.Utf8.{has_form, has_one_of, is_character}

characters : map is_character ((65 ∷ []) ∷ (195 ∷ 169 ∷ []) ∷ (226 ∷ 130 ∷ 172 ∷ []) ∷ (240 ∷ 159 ∷ 152 ∷ 128 ∷ []) ∷ []) ≡ true ∷ true ∷ true ∷ true ∷ []
unfolding has_form has_one_of
characters = refl

none : map is_character ((169 ∷ []) ∷ (255 ∷ []) ∷ (192 ∷ 128 ∷ []) ∷ (237 ∷ 160 ∷ 128 ∷ []) ∷ (244 ∷ 144 ∷ 128 ∷ 128 ∷ []) ∷ (195 ∷ []) ∷ [])
    ≡ false ∷ false ∷ false ∷ false ∷ false ∷ false ∷ []
unfolding has_form has_one_of
none = refl
