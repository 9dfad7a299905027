use Rattle.law_hostile.proofs.puts.Replies.{signed_reply_was_put}
use Rattle.law_hostile.proofs.puts.signed_reply_was_put_law.Goals as goal

pub returns : goal.returns
returns c = record { put = signed_reply_was_put }
