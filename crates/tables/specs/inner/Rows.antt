-- How one reading serves references and aliases: its entries are rows of numbers.
-- Definitions only. A reader of the lists needs none of them.
use Rattle.std.specs.Prelude.{ℕ, ◌*◌, List, [], ◌∷◌}
use Rattle.tables.specs.declared.tables.Reads.{Reads}
use Rattle.tables.specs.declared.tables.Reads.TheVariants.{Aliases, References}
use Rattle.references.specs.References.{reference_bytes, reference_row}
use Rattle.tables.specs.Tables.{Listing}
use Rattle.names.specs.Bindings.{binding_row}

-- a row is its own numbers
abbrev pub as_row : List ℕ → List ℕ
as_row e = e

-- what a table reading writes
unfoldable pub rows_of : Reads → Listing (List ℕ)
rows_of Aliases = record { reference = λ t. []; alias = λ b. binding_row b ∷ [] }
rows_of References = record { reference = λ t. reference_row t ∷ []; alias = λ b. [] }

-- how many bytes a table reading takes at most for each record: two references
abbrev pub read_bytes : ℕ
read_bytes = 2 * reference_bytes
