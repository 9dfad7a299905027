use Rattle.std.proofs.Common.{arith}
use Rattle.journal.proofs.disk_journal.Gates.{le_4}
use Rattle.journal.proofs.disk_journal.read.length_of.Goals as goal

pub returns : goal.returns
returns c = le_4 c.args.a c.args.b c.args.c c.args.d (omega arith) (omega arith) (omega arith) (omega arith)
