use Rattle.law_ties.proofs.channel_numbers.Runs.{numbered}
use Rattle.law_ties.proofs.channel_numbers.channels_are_numbered_law.Goals as goal

pub returns : goal.returns
returns c = record { numbered = numbered }
