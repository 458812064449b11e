use Rattle.frame.proofs.Framed.{frame-unreadable, frame-given}
use Rattle.print.proofs.Writing.{put_front}
use lib.ListN.{length-take}
use native.Mathlib.Omega.{arith}
use Rattle.frame.proofs.glance.Goals as goal

pub overflow_mul-end : goal.overflow_mul-end
overflow_mul-end c = let f = frame-given _ _ _ c.read_frame.ensures c.in-Ok.is in omega arith

pub slice_bounds-table-end : goal.slice_bounds-table-end
slice_bounds-table-end c = let f = frame-given _ _ _ c.read_frame.ensures c.in-Ok.is in omega arith

pub slice_bounds-put_reply-end-in-Ok : goal.slice_bounds-put_reply-end-in-Ok
slice_bounds-put_reply-end-in-Ok c = let f = frame-given _ _ _ c.read_frame.ensures c.in-Ok.is in simp length-take (omega arith)

pub slice_bounds-source-end : goal.slice_bounds-source-end
slice_bounds-source-end c = let f = frame-given _ _ _ c.read_frame.ensures c.in-Ok.is in omega arith

pub slice_bounds-put_reply-end-in-Ok-2 : goal.slice_bounds-put_reply-end-in-Ok-2
slice_bounds-put_reply-end-in-Ok-2 c = let f = frame-given _ _ _ c.read_frame.ensures c.in-Ok.is in simp length-take (omega arith)

pub put_reply-requires : goal.put_reply-requires
put_reply-requires c =
    let f = frame-given _ _ _ c.read_frame.ensures c.in-Ok.is in (simp length-take (omega arith), omega arith)

pub returns-in-Err : goal.returns-in-Err
returns-in-Err c =
    rw (frame-unreadable _ _ _ c.read_frame.ensures c.in-Err.is) (put_front _ _ (rw c.number.ensures at c.put_refusal.ensures.0) (omega arith))

pub returns-in-Ok : goal.returns-in-Ok
returns-in-Ok c =
    let f = frame-given _ _ _ c.read_frame.ensures c.in-Ok.is in rw f.2 (put_front _ _ c.put_reply.ensures.0 (omega arith))
