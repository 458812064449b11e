use Rattle.quotes.proofs.QuoteLaws.{unquoted-short, unquoted-pair, unquoted-whole}
use native.Mathlib.Omega.{arith}
use Rattle.quotes.proofs.quotes.unquote.Goals as goal

pub returns-then-saturating_sub-lt2 : goal.returns-then-saturating_sub-lt2
returns-then-saturating_sub-lt2 c = unquoted-short _ _ _ (omega arith)

pub returns-then-is_mark-last : goal.returns-then-is_mark-last
returns-then-is_mark-last c =
    unquoted-pair _ _ _ (omega arith) c.byte_at-mark.ensures c.byte_at-last.ensures c.is_mark.ensures c.if-is_mark-last.true

pub returns-else-is_mark-last : goal.returns-else-is_mark-last
returns-else-is_mark-last c =
    unquoted-whole _ _ _ (omega arith) c.byte_at-mark.ensures c.byte_at-last.ensures c.is_mark.ensures c.if-is_mark-last.false
