use Rattle.law_records.proofs.fold.Swept.{swept_next, swept_entries, swept_whole, swept_ascend, swept_before}
use Rattle.law_records.proofs.fold.laws.swept_law.Goals as goal

pub returns : goal.returns
returns c = record { next = swept_next; entries = swept_entries; whole = swept_whole; ascending = swept_ascend; before = swept_before }
