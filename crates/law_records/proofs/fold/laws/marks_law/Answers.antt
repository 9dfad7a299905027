use Rattle.law_records.proofs.fold.Marks.{marks_whole}
use Rattle.law_records.proofs.fold.laws.marks_law.Goals as goal

pub returns : goal.returns
returns c = marks_whole
