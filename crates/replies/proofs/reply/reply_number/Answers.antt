use Rattle.replies.specs.Reply.{reply_number}
use Rattle.replies.proofs.reply.reply_number.Goals as goal

pub returns-in-Ok : goal.returns-in-Ok
unfolding reply_number
returns-in-Ok g c = rw (c.in-Ok.is, ← c.high_half.ensures) c.packed.ensures

pub returns-in-Err : goal.returns-in-Err
unfolding reply_number
returns-in-Err g c = rw (c.in-Err.is, ← c.number.ensures) c.packed-in-Err.ensures
