use Rattle.law_hostile.proofs.finals.Accepting.{accepted_was_made}
use Rattle.law_hostile.proofs.finals.accepted_was_made_law.Goals as goal

pub returns : goal.returns
returns c = record { accepted = accepted_was_made }
