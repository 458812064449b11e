-- The table reading of FROM and JOIN.
-- src is the source's bytes.
-- Definitions only.
use Rattle.std.specs.Prelude.{ℕ, cond, List, [], ◌∷◌, ◌++◌, eqb, Option, Some, None}
use Rattle.records.specs.Kinds.{join_clause, table_identifier, table_expression, table_alias}
use Rattle.forest.specs.Forest.{Forest, nil, token, node}
use Rattle.names.specs.declared.names.NameBinding.{NameBinding}
use Rattle.references.specs.declared.pending.TableRef.{TableRef}
use Rattle.names.specs.Names.{is_part, direct, bound_name, alias_in}
use Rattle.references.specs.References.{fresh}

-- ---- the table reading

-- an alias that has a name sets the alias of the pending reference, if one is pending
unfoldable pub aliased : Option TableRef → Option NameBinding → Option TableRef
aliased None b = None
aliased (Some t) None = Some t
aliased (Some t) (Some b) = Some (record { «record» = t.«record»; database = t.database; table = t.table; alias = bound_name b })

-- what a reading lists of a reference that is handed on, and of an alias that is set
pub record Listing (E : Type 0) : Type 0 where
  pub reference : TableRef → List E
  pub alias : NameBinding → List E

-- the pending reference is handed on
unfoldable pub hand_on : {E : Type 0} → Listing E → Option TableRef → List E
hand_on L None = []
hand_on L (Some t) = L.reference t

-- an alias is listed if it has a name and one is pending
unfoldable pub list_alias : {E : Type 0} → Listing E → Option TableRef → Option NameBinding → List E
list_alias L None b = []
list_alias L (Some t) None = []
list_alias L (Some t) (Some b) = L.alias b

-- the reading of siblings with p pending; its end hands on
unfoldable pub table_reading : {E : Type 0} → Listing E → List ℕ → Option TableRef → Forest → List E
table_reading L src p nil = hand_on L p
table_reading L src p (token r rest) = table_reading L src p rest
table_reading {E} L src p (node r below rest) =
    let name : List E = hand_on L p ++ table_reading L src (fresh src r.index (direct is_part below)) rest in
    let alias : List E = list_alias L p (alias_in src r below) ++ table_reading L src (aliased p (alias_in src r below)) rest in
    let table : List E = table_reading L src None below ++ table_reading L src p rest in
    let join : List E = hand_on L p ++ (table_reading L src None below ++ table_reading L src None rest) in
    let other : List E = table_reading L src p rest in
    let further : List E = cond (eqb r.kind table_expression) table (cond (eqb r.kind join_clause) join other) in
    cond (eqb r.kind table_identifier) name (cond (eqb r.kind table_alias) alias further)

-- the references of a reading, and its aliases
abbrev pub references : Listing TableRef
references = record { reference = λ t. t ∷ []; alias = λ b. [] }

abbrev pub aliases : Listing NameBinding
aliases = record { reference = λ t. []; alias = λ b. b ∷ [] }
