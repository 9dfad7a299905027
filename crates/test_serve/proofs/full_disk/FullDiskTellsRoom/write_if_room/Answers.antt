use Rattle.std.proofs.Common.{length}
use Rattle.base_outside.proofs.streams.Written.{untorn}
use Rattle.test_serve.proofs.full_disk.FullDiskTellsRoom.write_if_room.Goals as goal

pub returns-clause-crash : goal.returns-clause-crash
returns-clause-crash c = λ left now. (left, tt, untorn c.args._at (length c.args._from.now) left)
