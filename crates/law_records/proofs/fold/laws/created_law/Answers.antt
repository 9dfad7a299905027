use Rattle.law_records.proofs.fold.Created.{created_fits, created_there, created_free, unlocked}
use Rattle.law_records.proofs.fold.laws.created_law.Goals as goal

pub returns : goal.returns
returns c = record { fits = created_fits; there = created_there; free = created_free; unlocked = unlocked }
