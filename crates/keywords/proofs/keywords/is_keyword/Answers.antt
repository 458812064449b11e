-- the constants are the table: computed
use mathlib.Core.Path.{refl}
use mathlib.Core.List.{flatten}
use Rattle.keywords.specs.Keywords.{keywords}
use Rattle.text.specs.Text.{bytes_of}
use Rattle.keywords.specs.inner.KeywordTable.{keyword_bytes}
use Rattle.keywords.proofs.keywords.is_keyword.Goals as goal

pub keyword_in-requires : goal.keyword_in-requires
unfolding keyword_bytes flatten keywords bytes_of
keyword_in-requires c = record { bytes = refl; places = refl }
