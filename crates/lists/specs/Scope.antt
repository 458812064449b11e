-- The four lists of a root.
-- src is the source's bytes, t the table's, and i the root's record number.
-- Definitions only.
use Rattle.std.specs.Prelude.{ℕ, List}
use Rattle.names.specs.declared.names.NameBinding.{NameBinding}
use Rattle.references.specs.declared.pending.TableRef.{TableRef}
use Rattle.collection.specs.Collection.{collection_at, own_with, own_columns, own_tables}
use Rattle.tables.specs.Tables.{references, aliases}

-- each of the four lists is its own question
abbrev pub with_names : List ℕ → List ℕ → ℕ → List NameBinding
with_names src = collection_at (own_with src)

abbrev pub table_aliases : List ℕ → List ℕ → ℕ → List NameBinding
table_aliases src = collection_at (own_tables aliases src)

abbrev pub column_aliases : List ℕ → List ℕ → ℕ → List NameBinding
column_aliases src = collection_at (own_columns src)

abbrev pub table_refs : List ℕ → List ℕ → ℕ → List TableRef
table_refs src = collection_at (own_tables references src)
