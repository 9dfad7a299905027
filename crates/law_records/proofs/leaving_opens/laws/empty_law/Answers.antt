use Rattle.law_records.proofs.leaving_opens.Full.{emptied, same_full, gone_or_full}
use Rattle.law_records.proofs.leaving_opens.laws.empty_law.Goals as goal

pub returns : goal.returns
returns c = record { emptied = emptied; same = same_full; gone = gone_or_full }
