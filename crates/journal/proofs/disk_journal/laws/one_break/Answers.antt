use Rattle.journal.proofs.disk_journal.Meaning.{breaks_at_one}
use Rattle.journal.proofs.disk_journal.laws.one_break.Goals as goal

pub returns : goal.returns
returns c = breaks_at_one
