use Rattle.law_records.proofs.fold.Numbers.{made_ascend, removed_ascend, renamed_ascend}
use Rattle.law_records.proofs.fold.laws.ordered_law.Goals as goal

pub returns : goal.returns
returns c = record { made = made_ascend; removed = removed_ascend; renamed = renamed_ascend }
