use Rattle.law_ties.proofs.channel_numbers.Runs.{accepted_kept}
use Rattle.law_ties.proofs.channel_numbers.accepted_kept_law.Goals as goal

pub returns : goal.returns
returns c = record { kept = accepted_kept }
