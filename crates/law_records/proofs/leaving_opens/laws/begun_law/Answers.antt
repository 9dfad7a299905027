use Rattle.law_records.proofs.leaving_opens.Left.{begun}
use Rattle.law_records.proofs.leaving_opens.laws.begun_law.Goals as goal

pub returns : goal.returns
returns c = begun
