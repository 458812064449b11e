use Rattle.clauses.specs.inner.Clauses.{some_clause}
use Rattle.clauses.proofs.clauses.has_clause.Goals as goal

pub returns-in-WithNames : goal.returns-in-WithNames
unfolding some_clause
returns-in-WithNames c = rw c.in-WithNames.is c.has_kind.ensures

pub returns-in-TableAliases : goal.returns-in-TableAliases
unfolding some_clause
returns-in-TableAliases c = rw c.in-TableAliases.is c.has_kind-in-TableAliases.ensures

pub returns-in-ColumnAliases : goal.returns-in-ColumnAliases
unfolding some_clause
returns-in-ColumnAliases c = rw c.in-ColumnAliases.is c.has_kind-in-ColumnAliases.ensures

pub returns-in-TableRefs : goal.returns-in-TableRefs
unfolding some_clause
returns-in-TableRefs c = rw c.in-TableRefs.is c.has_kind-in-TableRefs.ensures
