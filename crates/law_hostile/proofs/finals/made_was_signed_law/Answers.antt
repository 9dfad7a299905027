use Rattle.law_hostile.proofs.finals.Making.{made_was_signed}
use Rattle.law_hostile.proofs.finals.made_was_signed_law.Goals as goal

pub returns : goal.returns
returns c = record { signed = made_was_signed }
