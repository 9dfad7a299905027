use Rattle.law_hostile.proofs.unforged.Deciding.{forged_apart, forged_or_signed}
use Rattle.law_hostile.proofs.unforged.forged_or_signed_law.Goals as goal

pub returns-clause-either : goal.returns-clause-either
returns-clause-either c = forged_or_signed

pub returns-clause-apart : goal.returns-clause-apart
returns-clause-apart c = forged_apart
