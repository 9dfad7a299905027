use Rattle.law_records.proofs.leaving_opens.Left.{left_one, file_there}
use Rattle.law_records.proofs.leaving_opens.laws.left_law.Goals as goal

pub returns : goal.returns
returns c = record { there = file_there; behind = left_one }
