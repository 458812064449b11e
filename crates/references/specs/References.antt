-- The reference of a table name, and its entry.
-- src is the source's bytes.
-- Definitions only.
use Rattle.std.specs.Prelude.{ℕ, ◌*◌, List, [], ◌∷◌, ◌++◌, Option, Some, None}
use Rattle.records.specs.declared.record.Rec.{Rec}
use Rattle.quotes.specs.declared.quotes.NameRanges.{NameRanges}
use Rattle.references.specs.declared.pending.TableRef.{TableRef}
use Rattle.quotes.specs.Quotes.{name_of, absent_name}
use Rattle.lent.specs.Numbers.{number_bytes}

-- the reference of name node x by its parts. One: table; two: database, table; else none
unfoldable pub fresh : List ℕ → ℕ → List Rec → Option TableRef
fresh src x [] = None
fresh src x (t ∷ []) = Some (record { «record» = x; database = absent_name; table = name_of src t; alias = absent_name })
fresh src x (d ∷ t ∷ []) = Some (record { «record» = x; database = name_of src d; table = name_of src t; alias = absent_name })
fresh src x (d ∷ t ∷ u ∷ more) = None

-- a name: its outer range, then its inner one
abbrev pub name_row : NameRanges → List ℕ
name_row n = n.outer.start ∷ n.outer.end ∷ n.inner.start ∷ n.inner.end ∷ []

-- a reference: record, then the ranges of database, table and alias, name by name
abbrev pub reference_row : TableRef → List ℕ
reference_row e = e.«record» ∷ name_row e.database ++ name_row e.table ++ name_row e.alias

-- how many bytes each takes
abbrev pub reference_bytes : ℕ
reference_bytes = 13 * number_bytes
