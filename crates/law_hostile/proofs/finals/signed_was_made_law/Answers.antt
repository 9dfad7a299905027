use Rattle.law_hostile.proofs.finals.Signing.{signed_was_made}
use Rattle.law_hostile.proofs.finals.signed_was_made_law.Goals as goal

pub returns : goal.returns
returns c = record { made = signed_was_made }
