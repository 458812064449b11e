use Rattle.tables.proofs.WaitingLaws.{bound-at, after-unnamed, after-named}
use Rattle.tables.specs.inner.Waiting.{alias_after}
use native.Mathlib.Omega.{arith}
use Rattle.tables.proofs.waiting.alias_after.Goals as goal

pub returns-in-None : goal.returns-in-None
unfolding alias_after
returns-in-None c = (rw c.in-None.is, omega arith)

pub returns-in-None-extract_alias_name : goal.returns-in-None-extract_alias_name
returns-in-None-extract_alias_name c =
    (rw c.in-Some.is (after-unnamed _ _ _ _ _ (bound-at _ _ _ _ c.stretch_of.ensures.0 (rw c.stretch_of.ensures.1 at c.extract_alias_name.ensures)) c.in-None-extract_alias_name.is), rw c.in-Some.is at c.requires.0)

pub returns-in-Some-extract_alias_name : goal.returns-in-Some-extract_alias_name
returns-in-Some-extract_alias_name c =
    (rw c.in-Some.is (after-named _ _ _ _ _ (bound-at _ _ _ _ c.stretch_of.ensures.0 (rw c.stretch_of.ensures.1 at c.extract_alias_name.ensures)) c.in-Some-extract_alias_name.is), omega arith)
