use Rattle.base_outside.proofs.streams.Written.{uncut}
use Rattle.base_machine.proofs.disk.StdDiskDisk.cut.Goals as goal

pub returns-clause-crash : goal.returns-clause-crash
returns-clause-crash c = λ left now. (left, tt, uncut c.args.length left)
