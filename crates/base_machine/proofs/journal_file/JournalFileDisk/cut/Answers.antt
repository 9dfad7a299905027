use Rattle.base_outside.proofs.streams.Written.{uncut}
use Rattle.base_machine.proofs.journal_file.JournalFileDisk.cut.Goals as goal

pub returns-clause-crash : goal.returns-clause-crash
returns-clause-crash g c = λ left now. (left, tt, uncut c.args.length left)
