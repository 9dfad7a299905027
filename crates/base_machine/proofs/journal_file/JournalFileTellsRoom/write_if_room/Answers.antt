use Rattle.std.proofs.Common.{length}
use Rattle.base_outside.proofs.streams.Written.{untorn}
use Rattle.base_machine.proofs.journal_file.JournalFileTellsRoom.write_if_room.Goals as goal

pub returns-clause-crash : goal.returns-clause-crash
returns-clause-crash g c = λ left now. (left, tt, untorn c.args.at (length c.args.from.now) left)
