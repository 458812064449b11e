-- The pending reference by the records that make it, in the stretch s that is read, whose first record has the number base.
-- Definitions only. A reader of the lists needs none of them.
use Rattle.references.specs.declared.pending.TableRef.{TableRef}
use Rattle.names.specs.declared.names.NameBinding.{NameBinding}
use Rattle.std.specs.Prelude.{ℕ, ◌+◌, List, Option, Some, None}
use Rattle.records.specs.Table.{record_at, records, part}
use Rattle.forest.specs.Forest.{kids, stretch_end}
use Rattle.names.specs.Names.{is_part, direct, alias_in}
use Rattle.references.specs.References.{fresh}
use Rattle.tables.specs.Tables.{aliased}

-- the reference of the table name at record n
unfoldable pub fresh_at : List ℕ → ℕ → List ℕ → ℕ → Option TableRef
fresh_at src base s n = fresh src (base + n) (direct is_part (kids (records (base + n) (part s n (stretch_end s n)))))

-- what the alias at record a binds
unfoldable pub bound_at : List ℕ → ℕ → List ℕ → ℕ → Option NameBinding
bound_at src base s a = alias_in src (record_at (part s a (stretch_end s a)) (base + a) 0) (kids (records (base + a) (part s a (stretch_end s a))))

-- the pending reference, where there is a table name at record n, with the alias at record a, where one is set
unfoldable pub pending_at : List ℕ → ℕ → List ℕ → Option ℕ → Option ℕ → Option TableRef
pending_at src base s None a = None
pending_at src base s (Some n) None = fresh_at src base s n
pending_at src base s (Some n) (Some a) = aliased (fresh_at src base s n) (bound_at src base s a)

-- an alias that has a name comes before the one that is set
unfoldable pub newer : Option NameBinding → ℕ → ℕ → ℕ
newer None a i = a
newer (Some b) a i = i

-- the alias that is set after that at record i
unfoldable pub alias_after : List ℕ → ℕ → List ℕ → Option ℕ → ℕ → ℕ
alias_after src base s None i = i
alias_after src base s (Some a) i = newer (bound_at src base s i) a i
