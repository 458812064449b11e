-- What the items of a WITH clause and the aliases of a SELECT clause bind, and their entries.
-- src is the source's bytes.
-- Definitions only.
use Rattle.std.specs.Prelude.{ℕ, ◌*◌, Bool, cond, ◌||◌, List, [], ◌∷◌, ◌++◌, eqb, Option, Some, None}
use Rattle.records.specs.declared.record.Rec.{Rec}
use Rattle.records.specs.Kinds.{with_expression_item, column_list, expression_list, column_alias}
use Rattle.forest.specs.Forest.{Forest, nil, token, node}
use Rattle.names.specs.declared.names.NameBinding.{NameBinding}
use Rattle.names.specs.Names.{with_item, alias_in}
use Rattle.lent.specs.Numbers.{number_bytes}

-- ---- WITH items and column aliases

-- without a name there is no entry
unfoldable pub entry : Option NameBinding → List NameBinding
entry None = []
entry (Some b) = b ∷ []

-- what the siblings of one kind bind, also those in lists, at any nesting
unfoldable pub bound_in : ℕ → (ℕ → Bool) → (Rec → Forest → Option NameBinding) → Forest → List NameBinding
bound_in kind is_list bind nil = []
bound_in kind is_list bind (token r rest) = bound_in kind is_list bind rest
bound_in kind is_list bind (node r below rest) =
    let inside : List NameBinding = bound_in kind is_list bind below in
    let through : List NameBinding = cond (is_list r.kind) inside [] in
    cond (eqb r.kind kind) (entry (bind r below)) through ++ bound_in kind is_list bind rest

-- the items of a With, also through ColumnList
abbrev pub with_items : List ℕ → Forest → List NameBinding
with_items src = bound_in with_expression_item (λ k. eqb k column_list) (with_item src)

-- the column aliases of a Select, also through ColumnList and ExpressionList
abbrev pub select_aliases : List ℕ → Forest → List NameBinding
select_aliases src = bound_in column_alias (λ k. eqb k column_list || eqb k expression_list) (alias_in src)

-- a binding: token, name, definition ranges
abbrev pub binding_row : NameBinding → List ℕ
binding_row e = e.token.start ∷ e.token.end ∷ e.name.start ∷ e.name.end ∷ e.definition.start ∷ e.definition.end ∷ []

abbrev pub binding_bytes : ℕ
binding_bytes = 6 * number_bytes
