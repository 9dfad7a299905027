use Rattle.law_hostile.proofs.loosely.Runs.{loosely_newer}
use Rattle.law_hostile.proofs.loosely.loose_newer_law.Goals as goal

pub returns : goal.returns
returns c = record { newer = loosely_newer }
