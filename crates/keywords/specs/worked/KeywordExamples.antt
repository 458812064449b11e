-- Words that are keywords, and words that are not.
use Rattle.std.specs.Prelude.{◌≡◌, refl, true, false, [], ◌∷◌}
use Rattle.keywords.specs.Keywords.{keywords, is_keyword}
use Rattle.text.specs.Text.{bytes_of, upper}

-- the empty word is no keyword
pub nothing_written : is_keyword (bytes_of "") ≡ false
unfolding is_keyword upper bytes_of keywords
nothing_written = refl

-- a one_byte word is no keyword
pub one_byte : is_keyword (bytes_of "A") ≡ false
unfolding is_keyword upper bytes_of keywords
one_byte = refl

-- case is ignored
pub lower : is_keyword (bytes_of "select") ≡ true
unfolding is_keyword upper bytes_of keywords
lower = refl

pub mixed : is_keyword (bytes_of "SeLeCt") ≡ true
unfolding is_keyword upper bytes_of keywords
mixed = refl

-- a byte that is a letter but for another bit than its case is none: 206 is N with bit 7 set
pub other-bit : is_keyword (79 ∷ 206 ∷ []) ≡ false
unfolding is_keyword upper bytes_of keywords
other-bit = refl

-- a keyword less its last byte, or with a byte more, is none
pub shorter : is_keyword (bytes_of "selec") ≡ false
unfolding is_keyword upper bytes_of keywords
shorter = refl

pub longer : is_keyword (bytes_of "selects") ≡ false
unfolding is_keyword upper bytes_of keywords
longer = refl

-- the longest have 12 bytes
pub twelve_bytes : is_keyword (bytes_of "DICTIONARIES") ≡ true
unfolding is_keyword upper bytes_of keywords
twelve_bytes = refl

pub thirteen-bytes : is_keyword (bytes_of "MATERIALIZEDS") ≡ false
unfolding is_keyword upper bytes_of keywords
thirteen-bytes = refl
