use Rattle.base_outside.proofs.streams.Written.{uncut}
use Rattle.test_serve.proofs.full_disk.FullDiskDisk.cut.Goals as goal

pub returns-clause-crash : goal.returns-clause-crash
returns-clause-crash c = λ left now. (left, tt, uncut c.args._length left)
