use Rattle.conn_core.proofs.reply_frames.Loops.{GoesOver}
use Rattle.conn_core.proofs.reply_frames.adding.add_each.Given as goal

abbrev pub invariant-loop-at : goal.invariant-loop-at
invariant-loop-at l = GoesOver l.fn.answers l.fn.conn l.fn.joining l.at l.conn l.joining l.walk
