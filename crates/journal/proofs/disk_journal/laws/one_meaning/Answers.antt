use Rattle.journal.proofs.disk_journal.Meaning.{stands_for_one}
use Rattle.journal.proofs.disk_journal.laws.one_meaning.Goals as goal

pub returns : goal.returns
returns c = stands_for_one
