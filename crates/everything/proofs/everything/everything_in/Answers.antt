use Rattle.std.proofs.lemmas.Result.{err_from_is_err_and}
use Rattle.everything.proofs.EverythingLaws.{everything-short, everything-given}
use Rattle.cursor_root.proofs.RootLaws.{root-shallow}
use Rattle.forest.proofs.Above.{admitted-climbs}
use Rattle.forest.proofs.Sense.{admitted-sized}
use Rattle.table.proofs.Checks.{rules-passed}
use mathlib.Core.Path.{refl, sym}
use Rattle.everything.proofs.everything.everything_in.Goals as goal

pub root_at-root-requires : goal.root_at-root-requires
root_at-root-requires c = admitted-sized _ _ refl (sym c.requires)

pub counts_in-c-requires : goal.counts_in-c-requires
counts_in-c-requires c =
    (root-shallow _ _ _ refl (sym c.requires) c.root_at-root.ensures, admitted-climbs _ _ refl (sym c.requires))

pub put_lists-requires : goal.put_lists-requires
put_lists-requires c =
    (root-shallow _ _ _ refl (sym c.requires) c.root_at-root.ensures, admitted-climbs _ _ refl (sym c.requires))

pub returns-in_err-room_for : goal.returns-in_err-room_for
returns-in_err-room_for c =
    let p = err_from_is_err_and c.from_residual.result c.from_residual.ensures.1 in rw (p.1, p.2) (everything-short _ _ _ _ (rules-passed _ _ _ c.requires refl) (rw c.root_at-root.ensures at c.counts_in-c.ensures) c.room_for.ensures c.in_err-room_for.was)

pub returns : goal.returns
returns c =
    let r = c.root_at-root.ensures in everything-given _ _ _ _ (rules-passed _ _ _ c.requires refl) (rw r at c.counts_in-c.ensures) c.room_for.ensures c.in_ok-room_for.was (rw r at c.put_everything.ensures) (rw r at c.put_lists.ensures.0) (rw r at c.put_lists.ensures.1) (rw r at c.put_lists.ensures.2) (rw r at c.put_lists.ensures.3)
