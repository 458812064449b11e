-- Names worked out, as a check of the definitions: the outer and the inner range of a token that is the whole source.
use Rattle.std.specs.Prelude.{ℕ, ◌≡◌, refl, length}
use Prim.Native.String.{String}
use Rattle.records.specs.Kinds.{bare_word, quoted_identifier}
use Rattle.text.specs.Text.{bytes_of}
use Rattle.quotes.specs.declared.quotes.NameRanges.{NameRanges}
use Rattle.quotes.specs.Quotes.{unquoted, name_of}

-- the name that a token of this kind and text gives
abbrev name : ℕ → String → NameRanges
name kind s = name_of (bytes_of s) (record { index = 0; kind = kind; depth = 0; start = 0; end = length (bytes_of s) })

-- both ranges end at n; or the inner one has lost a mark at either end
abbrev whole : ℕ → NameRanges
whole n = record { outer = record { start = 0; end = n }; inner = record { start = 0; end = n } }

abbrev cut : ℕ → ℕ → NameRanges
cut n m = record { outer = record { start = 0; end = n }; inner = record { start = 1; end = m } }

-- backticks; double quotes, and a space between them; nothing between them
paired : (name quoted_identifier "`a`" ≡ cut 3 2) × (name quoted_identifier "\"a b\"" ≡ cut 5 4) × (name quoted_identifier "``" ≡ cut 2 1)
unfolding name_of unquoted bytes_of
paired = (refl, refl, refl)

-- a lone mark; marks that do not match; a mark at one end; no mark; no mark that counts; no text
kept : (name quoted_identifier "`" ≡ whole 1) × (name quoted_identifier "\"" ≡ whole 1) × (name quoted_identifier "`a\"" ≡ whole 3)
    × (name quoted_identifier "`a" ≡ whole 2) × (name quoted_identifier "a`" ≡ whole 2) × (name quoted_identifier "a" ≡ whole 1)
    × (name quoted_identifier "'a'" ≡ whole 3) × (name quoted_identifier "" ≡ whole 0)
unfolding name_of unquoted bytes_of
kept = (refl, refl, refl, refl, refl, refl, refl, refl)

-- a name that is no Quoted has the same range twice, whatever its text
bare : (name bare_word "a" ≡ whole 1) × (name bare_word "`a`" ≡ whole 3) × (name bare_word "\"a b\"" ≡ whole 5) × (name bare_word "`" ≡ whole 1)
unfolding name_of unquoted bytes_of
bare = (refl, refl, refl, refl)
