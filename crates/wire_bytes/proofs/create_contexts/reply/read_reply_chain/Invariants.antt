use Rattle.std.proofs.Common.{length}
use Rattle.wire_bytes.proofs.create_contexts.Replies.{RepliesFound}
use Rattle.wire_bytes.proofs.create_contexts.reply.read_reply_chain.Given as goal

abbrev pub invariant-loop-head : goal.invariant-loop-head
invariant-loop-head l = RepliesFound l.initial.bytes l.rest l.found

abbrev pub decreases-loop-head : goal.decreases-loop-head
decreases-loop-head l = length l.rest
