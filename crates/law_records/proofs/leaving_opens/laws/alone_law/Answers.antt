use Rattle.law_records.proofs.leaving_opens.Left.{alone, kept_alone}
use Rattle.law_records.proofs.leaving_opens.laws.alone_law.Goals as goal

pub returns-clause-goes : goal.returns-clause-goes
returns-clause-goes c = alone

pub returns-clause-stays : goal.returns-clause-stays
returns-clause-stays c = kept_alone
