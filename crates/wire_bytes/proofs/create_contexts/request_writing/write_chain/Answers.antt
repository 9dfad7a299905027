use Rattle.std.proofs.Common.{arith}
use Rattle.wire_bytes.proofs.create_contexts.Joining.{requests_written}
use Rattle.wire_bytes.proofs.create_contexts.request_writing.write_chain.Goals as goal

pub returns : goal.returns
returns c = let written = requests_written c.args.c.now in grind arith
