use Rattle.cursor.specs.CursorContext.{starts_after}
use Rattle.tokens.specs.LastToken.{is_text}
use borrow.Author.Rules.{rules}
use Rattle.cursor.proofs.cursor_context.starts_after.Goals as goal

pub returns-in-None : goal.returns-in-None
unfolding starts_after is_text
returns-in-None c = search rules

pub returns-in-Some : goal.returns-in-Some
unfolding starts_after is_text
returns-in-Some c = rw (c.in-Some.is, ← c.text_of.ensures) c.is_byte.ensures
