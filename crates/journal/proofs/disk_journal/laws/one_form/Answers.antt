use Rattle.std.proofs.Common.{sym}
use Rattle.journal.proofs.disk_journal.Meaning.{same_form}
use Rattle.journal.proofs.disk_journal.laws.one_form.Goals as goal

pub returns : goal.returns
returns c = λ bytes rest more f g a b first second. sym (same_form f g a b rest more bytes first second)
