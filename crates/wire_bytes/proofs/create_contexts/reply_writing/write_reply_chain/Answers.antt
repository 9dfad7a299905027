use Rattle.std.proofs.Common.{arith}
use Rattle.wire_bytes.proofs.create_contexts.Joining.{replies_written}
use Rattle.wire_bytes.proofs.create_contexts.reply_writing.write_reply_chain.Goals as goal

pub returns : goal.returns
returns c = let written = replies_written c.args.c.now in grind arith
