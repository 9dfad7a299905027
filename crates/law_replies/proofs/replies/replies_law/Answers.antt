use Rattle.law_replies.proofs.replies.Whole.{replies_fit, room_most}
use Rattle.law_replies.proofs.replies.replies_law.Goals as goal

pub returns : goal.returns
returns c = record { fit = replies_fit; room = room_most }
