use Rattle.journal.proofs.disk_journal.Meaning.{breaks_for_none}
use Rattle.journal.proofs.disk_journal.laws.broken_means_nothing.Goals as goal

pub returns : goal.returns
returns c = breaks_for_none
