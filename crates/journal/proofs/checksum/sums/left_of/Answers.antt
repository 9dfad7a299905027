use Rattle.std.proofs.Common.{arith}
use Rattle.journal.proofs.checksum.Entries.{table_is}
use Rattle.journal.proofs.checksum.sums.left_of.Goals as goal

pub returns : goal.returns
returns c = table_is c.args.more c.args.byte c.requires (omega arith)
