use Rattle.brackets.specs.inner.BracketStack.{hint_by}
use Rattle.text.specs.Text.{bytes_of}
use mathlib.Core.Path.{◌∙◌}
use Rattle.hint.proofs.hint.hint_on.Goals as goal

pub returns-then-holds : goal.returns-then-holds
unfolding hint_by bytes_of
returns-then-holds c = c.last_opener.ensures ∙ simp (← c.holds.ensures, c.if-holds.true)

pub returns-then-holds-2 : goal.returns-then-holds-2
unfolding hint_by bytes_of
returns-then-holds-2 c =
    c.last_opener-then-holds-2.ensures ∙ simp (← c.holds.ensures, c.if-holds.false, ← c.holds-2.ensures, c.if-holds-2.true)

pub returns-then-holds-3 : goal.returns-then-holds-3
unfolding hint_by bytes_of
returns-then-holds-3 c =
    c.last_opener-then-holds-3.ensures ∙ simp (← c.holds.ensures, c.if-holds.false, ← c.holds-2.ensures, c.if-holds-2.false, ← c.holds-3.ensures, c.if-holds-3.true)

pub returns : goal.returns
unfolding hint_by bytes_of
returns c =
    simp (← c.holds.ensures, c.if-holds.false, ← c.holds-2.ensures, c.if-holds-2.false, ← c.holds-3.ensures, c.if-holds-3.false)
