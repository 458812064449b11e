use mathlib.Core.Path.{◌∙◌}
use Rattle.demands.specs.declared.Question.TheVariants.{Check, TokenClasses, OpenersLeft, BracketHint, WithNames, TableAliases, ColumnAliases, TableRefs, CursorContext, EnclosingStatement, CursorRoot, WithNamesAt, TableAliasesAt, ColumnAliasesAt, TableRefsAt, RecordsAbove, CursorContexts}
use Rattle.demands.specs.Questions.{matter}
use Rattle.demands.proofs.Numbers.{kept}
use Rattle.demands.proofs.Promises.{number-told, check-packed, reply-packed, plain-told, offset-told, rooted-told, numbered-told}
use Rattle.ask.proofs.ask.Goals as goal

pub returns-in-Check : goal.returns-in-Check
unfolding matter
returns-in-Check c =
    rw c.in-Check.is (let w = kept Check _ c.type_inv.table c.desk_check.type_inv (number-told _ _ _ (c.desk_check.ensures ∙ check-packed _)) in record { demand1 = w.0; demand2 = w.1.0; numbers = w.1.1 })

pub returns-in-TokenClasses : goal.returns-in-TokenClasses
unfolding matter
returns-in-TokenClasses c =
    rw c.in-TokenClasses.is (let w = kept TokenClasses _ c.type_inv.table c.desk_token_classes.type_inv (plain-told _ _ _ c.desk_token_classes.ensures) in record { demand1 = w.0; demand2 = w.1.0; numbers = w.1.1 })

pub returns-in-OpenersLeft : goal.returns-in-OpenersLeft
unfolding matter
returns-in-OpenersLeft c =
    rw c.in-OpenersLeft.is (let w = kept OpenersLeft _ c.type_inv.table c.desk_openers_left.type_inv (plain-told _ _ _ c.desk_openers_left.ensures) in record { demand1 = w.0; demand2 = w.1.0; numbers = w.1.1 })

pub returns-in-BracketHint : goal.returns-in-BracketHint
unfolding matter
returns-in-BracketHint c =
    rw c.in-BracketHint.is (let w = kept BracketHint _ c.type_inv.table c.desk_bracket_hint.type_inv (number-told _ _ _ (c.desk_bracket_hint.ensures ∙ reply-packed _ _ _)) in record { demand1 = w.0; demand2 = w.1.0; numbers = w.1.1 })

pub returns-in-WithNames : goal.returns-in-WithNames
unfolding matter
returns-in-WithNames c =
    rw c.in-WithNames.is (let w = kept WithNames _ c.type_inv.table c.desk_with_names.type_inv (rooted-told _ _ _ _ c.desk_with_names.ensures) in record { demand1 = w.0; demand2 = w.1.0; numbers = w.1.1 })

pub returns-in-TableAliases : goal.returns-in-TableAliases
unfolding matter
returns-in-TableAliases c =
    rw c.in-TableAliases.is (let w = kept TableAliases _ c.type_inv.table c.desk_table_aliases.type_inv (rooted-told _ _ _ _ c.desk_table_aliases.ensures) in record { demand1 = w.0; demand2 = w.1.0; numbers = w.1.1 })

pub returns-in-ColumnAliases : goal.returns-in-ColumnAliases
unfolding matter
returns-in-ColumnAliases c =
    rw c.in-ColumnAliases.is (let w = kept ColumnAliases _ c.type_inv.table c.desk_column_aliases.type_inv (rooted-told _ _ _ _ c.desk_column_aliases.ensures) in record { demand1 = w.0; demand2 = w.1.0; numbers = w.1.1 })

pub returns-in-TableRefs : goal.returns-in-TableRefs
unfolding matter
returns-in-TableRefs c =
    rw c.in-TableRefs.is (let w = kept TableRefs _ c.type_inv.table c.desk_table_refs.type_inv (rooted-told _ _ _ _ c.desk_table_refs.ensures) in record { demand1 = w.0; demand2 = w.1.0; numbers = w.1.1 })

pub returns-in-CursorContext : goal.returns-in-CursorContext
unfolding matter
returns-in-CursorContext c =
    rw c.in-CursorContext.is (let w = kept CursorContext _ c.type_inv.table c.desk_cursor_context.type_inv (plain-told _ _ _ c.desk_cursor_context.ensures) in record { demand1 = w.0; demand2 = w.1.0; numbers = w.1.1 })

pub returns-in-EnclosingStatement : goal.returns-in-EnclosingStatement
unfolding matter
returns-in-EnclosingStatement c =
    rw c.in-EnclosingStatement.is (let w = kept EnclosingStatement _ c.type_inv.table c.desk_enclosing_statement.type_inv (number-told _ _ _ (c.desk_enclosing_statement.ensures ∙ reply-packed _ _ _)) in record { demand1 = w.0; demand2 = w.1.0; numbers = w.1.1 })

pub returns-in-CursorRoot : goal.returns-in-CursorRoot
unfolding matter
returns-in-CursorRoot c =
    rw c.in-CursorRoot.is (let w = kept CursorRoot _ c.type_inv.table c.desk_cursor_root.type_inv (number-told _ _ _ (c.desk_cursor_root.ensures ∙ reply-packed _ _ _)) in record { demand1 = w.0; demand2 = w.1.0; numbers = w.1.1 })

pub returns-in-WithNamesAt : goal.returns-in-WithNamesAt
unfolding matter
returns-in-WithNamesAt c =
    rw c.in-WithNamesAt.is (let w = kept WithNamesAt _ c.type_inv.table c.desk_with_names_at.type_inv (plain-told _ _ _ c.desk_with_names_at.ensures) in record { demand1 = w.0; demand2 = w.1.0; numbers = w.1.1 })

pub returns-in-TableAliasesAt : goal.returns-in-TableAliasesAt
unfolding matter
returns-in-TableAliasesAt c =
    rw c.in-TableAliasesAt.is (let w = kept TableAliasesAt _ c.type_inv.table c.desk_table_aliases_at.type_inv (plain-told _ _ _ c.desk_table_aliases_at.ensures) in record { demand1 = w.0; demand2 = w.1.0; numbers = w.1.1 })

pub returns-in-ColumnAliasesAt : goal.returns-in-ColumnAliasesAt
unfolding matter
returns-in-ColumnAliasesAt c =
    rw c.in-ColumnAliasesAt.is (let w = kept ColumnAliasesAt _ c.type_inv.table c.desk_column_aliases_at.type_inv (plain-told _ _ _ c.desk_column_aliases_at.ensures) in record { demand1 = w.0; demand2 = w.1.0; numbers = w.1.1 })

pub returns-in-TableRefsAt : goal.returns-in-TableRefsAt
unfolding matter
returns-in-TableRefsAt c =
    rw c.in-TableRefsAt.is (let w = kept TableRefsAt _ c.type_inv.table c.desk_table_refs_at.type_inv (plain-told _ _ _ c.desk_table_refs_at.ensures) in record { demand1 = w.0; demand2 = w.1.0; numbers = w.1.1 })

pub returns-in-RecordsAbove : goal.returns-in-RecordsAbove
unfolding matter
returns-in-RecordsAbove c =
    rw c.in-RecordsAbove.is (let w = kept RecordsAbove _ c.type_inv.table c.desk_records_above.type_inv (numbered-told _ _ _ _ c.desk_records_above.ensures) in record { demand1 = w.0; demand2 = w.1.0; numbers = w.1.1 })

pub returns-in-CursorContexts : goal.returns-in-CursorContexts
unfolding matter
returns-in-CursorContexts c =
    rw c.in-CursorContexts.is (let w = kept CursorContexts _ c.type_inv.table c.desk_cursor_contexts.type_inv (offset-told _ _ _ _ c.desk_cursor_contexts.ensures) in record { demand1 = w.0; demand2 = w.1.0; numbers = w.1.1 })
